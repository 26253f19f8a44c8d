use Rattle.sq_checks.proofs.tables.Table.remove.Goals as goal

pub returns-clause-value : goal.returns-clause-value
returns-clause-value g c = λ k. rw (← c.self.view_is) (c.remove.ensures.updates.0 k)
