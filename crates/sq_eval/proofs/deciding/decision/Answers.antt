use Rattle.std.proofs.Common.{◌∙◌, sym, ap}
use Rattle.std.specs.Prelude.{unwrap_or}
use Rattle.sq_eval.proofs.DecideLaws.{decides}
use Rattle.sq_rules.specs.Verdicts.{outcome_so_far}
use Rattle.sq_eval.proofs.deciding.decision.Goals as goal

pub returns : goal.returns
returns c = λ number rest.
    decides c.args.config.now c.args.facts.now c.args.rule.now c.facts.ensures.members c.requires.fast number rest
    ∙ ap (λ o. unwrap_or o (outcome_so_far rest).allow) (sym c.decision_over.ensures)
