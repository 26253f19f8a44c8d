use Rattle.sq_shared.proofs.hall.Hall.close.Goals as goal

pub returns-clause-noted : goal.returns-clause-noted
returns-clause-noted g c = (
  c.now-now.result,
  c.now-now.ensures.moment,
  (c.close-gave.ensures.told, c.close-gave.ensures.refuses),
)
