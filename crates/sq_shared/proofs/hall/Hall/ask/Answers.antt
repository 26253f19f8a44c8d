use Rattle.sq_shared.proofs.hall.Hall.ask.Goals as goal

pub returns-clause-noted : goal.returns-clause-noted
returns-clause-noted g c = (
  c.now-now.result,
  c.now-now.ensures.moment,
  (c.ask-gave.ensures.told, c.ask-gave.ensures.refuses),
)
