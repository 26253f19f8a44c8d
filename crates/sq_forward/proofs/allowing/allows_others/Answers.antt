use Rattle.std.proofs.Common.{◌∙◌, true, ap}
use Rattle.std.specs.Prelude.{unwrap_or}
use Rattle.sq_eval.specs.Takings.{fact_taken}
use Rattle.sq_forward.proofs.allowing.allows_others.Goals as goal

pub returns : goal.returns
returns c =
    c.unwrap_or.ensures
    ∙ ap (λ o. unwrap_or o true)
    (c.end.ensures (fact_taken c.args.facts.now) c.args.config.now.acls ∙ c.standing_of.ensures)
