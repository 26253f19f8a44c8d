use Rattle.std.proofs.Common.{refl}
use Rattle.sq_shared.proofs.hall.Hall.step.Goals as goal

pub returns-then-is_err-clause-noted : goal.returns-then-is_err-clause-noted
returns-then-is_err-clause-noted g c = (c.now-now.result, c.now-now.ensures.moment, (refl, tt))

pub returns-clause-noted : goal.returns-clause-noted
returns-clause-noted g c = (
  c.now-now.result,
  c.now-now.ensures.moment,
  (c.step-gave.ensures.told, c.step-gave.ensures.refuses),
)
