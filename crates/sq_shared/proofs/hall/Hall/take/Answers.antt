use Rattle.sq_shared.proofs.hall.Hall.take.Goals as goal

pub returns-clause-noted : goal.returns-clause-noted
returns-clause-noted g c = (
  c.now-now.result,
  c.now-now.ensures.moment,
  (c.take-gave.ensures.told, c.take-gave.ensures.refuses),
)
