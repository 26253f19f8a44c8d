use Rattle.sq_shared.proofs.hall.Hall.open.Goals as goal

pub returns-clause-noted : goal.returns-clause-noted
returns-clause-noted g c = (
  c.now-now.result,
  c.now-now.ensures.moment,
  (c.open-gave.ensures.told, c.open-gave.ensures.refuses),
)
