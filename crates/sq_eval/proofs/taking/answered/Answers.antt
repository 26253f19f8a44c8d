use Rattle.std.proofs.Common.{◌≡◌, ◌+◌, ◌∷◌, true, drop, sym, ap, ◌∙◌, arith}
use Rattle.std.proofs.lemmas.List.{drop_more}
use Rattle.sq_rules.specs.Values.{answer_for, answer_value}
use Rattle.sq_eval.proofs.TakingLaws.{found_first}
use Rattle.sq_eval.specs.Takings.{answers_for}
use Rattle.sq_eval.proofs.taking.answered.Goals as goal

pub returns-then-is_for : goal.returns-then-is_for
returns-then-is_for c =
    let i = c.loop-answer.answer-index in
    let a = c.answer-item.result in
    let rest = drop (i + 1) c.args.answers.now in
    let here : drop i c.args.answers.now ≡ a ∷ rest =
    drop_more c.args.answers.now i a (omega (arith, c.loop-answer-test.true))
    ∙ ap (λ b. b ∷ rest) (sym c.answer-item.is) in
    let is : answers_for a c.args.class c.args.key ≡ true = sym c.is_for.ensures ∙ c.if-is_for.true in
    c.what_value.ensures c.args.key
    ∙ ap (answer_value c.args.acl c.args.key)
    (sym (found_first a rest c.args.class c.args.key is) ∙ ap (λ l. answer_for l c.args.class c.args.key) (sym here)
    ∙ c.loop-answer.invariant)
