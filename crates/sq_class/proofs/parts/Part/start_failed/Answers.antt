use Rattle.sq_class.proofs.LossLaws.{cause_failed, handed_failed}
use Rattle.sq_class.proofs.parts.Part.start_failed.Goals as goal

pub returns-clause-after : goal.returns-clause-after
returns-clause-after c = λ none.
    rw (← c.self.view_is, c.in_ok-start_failed.ensures.ok)
    (handed_failed (record {
      kept = c.self.inside.kept.verdicts;
      lookups = c.self.inside.lookups.rows;
      stock = c.self.inside.farm;
    }) (rw (← c.self.view_is) at none))

pub returns-clause-lost : goal.returns-clause-lost
returns-clause-lost c = λ none q.
    rw (← c.self.view_is, c.in_ok-start_failed.ensures.ok)
    (cause_failed q c.self.inside.farm (rw (← c.self.view_is) at none))
