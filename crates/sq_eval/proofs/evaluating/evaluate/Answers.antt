use Rattle.std.proofs.Common.{◌≡◌, IfOk, subst, ap, refl, ◌∙◌}
use Rattle.sq_rules.specs.Verdicts.{default_of, rules_from}
use Rattle.sq_eval.proofs.TakingLaws.{taken_is}
use Rattle.sq_eval.specs.Rans.{ran_value}
use Rattle.sq_eval.specs.declared.taking.Helpers.TheVariants as helpers
use Rattle.sq_eval.proofs.evaluating.evaluate.Goals as goal

pub returns : goal.returns
returns c =
    let config = c.args.config.now in
    subst (λ x. IfOk c.value_of.result (λ v. v ≡ x))
    (ap (λ acls. ran_value acls c.in_ok-ran.ran) c.acls.ensures.acls
    ∙ c.in_ok-ran.ensures.ran
    ∙ ap (λ t. rules_from t config.acls (default_of config.rules) 1 config.rules)
    (taken_is config c.args.facts.now c.args.sight.now (helpers.Answered c.args.alloc c.args.sight c.args.answers)
    c.args.answers.now c.requires (λ p class. refl)))
    c.value_of.ensures
