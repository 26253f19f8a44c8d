use Rattle.std.proofs.Common.{◌≡◌, ◌+◌, ◌∷◌, ◌&&◌, ◌==◌, bytes_eq, true, Some, drop, sym, ap, ◌∙◌, arith}
use Rattle.std.proofs.lemmas.List.{drop_more}
use Rattle.std.specs.Option.{option_map}
use Rattle.sq_rules.specs.Values.{answer_for}
use Rattle.sq_checks.proofs.GivenLaws.{found_first}
use Rattle.sq_checks.specs.Givens.{given_by}
use Rattle.sq_checks.proofs.going.answered.Goals as goal

pub returns-then-is_for : goal.returns-then-is_for
returns-then-is_for c =
    let i = c.loop-answer.answer-index in
    let a = c.answer-item.result in
    let rest = drop (i + 1) c.args.answers.now in
    let key = c.args.key.now in
    let here : drop i c.args.answers.now ≡ a ∷ rest =
    drop_more c.args.answers.now i a (omega (arith, c.loop-answer-test.true))
    ∙ ap (λ b. b ∷ rest) (sym c.answer-item.is) in
    let is : (a.class == c.args.class && bytes_eq a.key key) ≡ true = sym c.is_for.ensures ∙ c.if-is_for.true in
    ap Some c.given_by.ensures
    ∙ ap (option_map given_by)
    (sym (found_first a rest c.args.class key is) ∙ ap (λ l. answer_for l c.args.class key) (sym here)
    ∙ c.loop-answer.invariant)
