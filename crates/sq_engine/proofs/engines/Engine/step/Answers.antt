use Rattle.std.proofs.Common.{max}
use Rattle.sq_engine.specs.EngineViews.{state_of}
use Rattle.sq_engine.specs.Stepping.{epoch_of, stepped_told}
use Rattle.sq_engine.proofs.PromiseLaws.{step_promised}
use Rattle.sq_engine.proofs.engines.Engine.step.Goals as goal

pub returns-clause-promised : goal.returns-clause-promised
returns-clause-promised c =
    let s = state_of c.args.self.now in
    step_promised (stepped_told s (epoch_of s c.args.check)) s (state_of c.step_on.new.self)
    (max c.args.now c.args.self.now.latest) c.args.check c.step_on.result c.step_on.ensures.told c.step_on.ensures.ok
