use Rattle.sq_checks.specs.Positions.{taken_in}
use Rattle.sq_checks.proofs.stepping.take.Goals as goal

pub returns-in-AnyOf-clause-goes : goal.returns-in-AnyOf-clause-goes
returns-in-AnyOf-clause-goes g c = c.enter.ensures (taken_in c.args.taking.now) c.args.steps.now

pub returns-in-AllOf-clause-goes : goal.returns-in-AllOf-clause-goes
returns-in-AllOf-clause-goes g c = c.enter-in-AllOf.ensures (taken_in c.args.taking.now) c.args.steps.now
