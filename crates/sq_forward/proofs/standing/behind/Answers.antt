use Rattle.std.proofs.Common.{◌∙◌, ◌∷◌, true, sym, ap}
use Rattle.sq_eval.specs.Takings.{fact_taken}
use Rattle.sq_forward.specs.Standings.{settled}
use Rattle.sq_forward.proofs.standing.behind.Goals as goal

pub returns-in-Unnamed : goal.returns-in-Unnamed
returns-in-Unnamed c = λ rules.
    c.looked.ensures rules true
    ∙ sym (ap (λ s. settled (fact_taken c.args.facts.now) c.args.config.now.acls s (c.args.rule.now ∷ rules))
    c.in-Unnamed.is)

pub returns-in-Open : goal.returns-in-Open
returns-in-Open c = λ rules.
    c.looked-in-Open.ensures rules c.in-Open.field-0
    ∙ sym (ap (λ s. settled (fact_taken c.args.facts.now) c.args.config.now.acls s (c.args.rule.now ∷ rules))
    c.in-Open.is)
