use Rattle.std.proofs.Common.{sym, ◌∙◌, ap}
use Rattle.sq_checks.proofs.Defaults.{default_of_last}
use Rattle.sq_rules.specs.Verdicts.{default_of}
use Rattle.sq_rules.specs.declared.values.Value.TheVariants as value
use Rattle.sq_checks.proofs.stepping.default_of.Goals as goal

pub returns-in-Some-clause-default : goal.returns-in-Some-clause-default
returns-in-Some-clause-default c = λ acls.
    ap value.Verdict (sym (ap default_of c.in-Some.ensures.cases.0
    ∙ default_of_last c.in-Some.field-0-1.now c.in-Some.last.now))
