use Rattle.std.proofs.Common.{refl}
use Rattle.sq_engine.specs.EngineViews.{state_of}
use Rattle.sq_engine.specs.Stepping.{epoch_of}
use Rattle.sq_mem_hub.specs.MemHubs.{both_pools}
use Rattle.sq_mem_hub.proofs.CallLaws.{steps_by}
use Rattle.sq_mem_hub.proofs.mem_hub.MemHubHub.step.Goals as goal

pub returns-clause-told : goal.returns-clause-told
returns-clause-told g c =
    let hub = c.args.self.now in
    let made = c.step-made.ensures in (
      _,
      refl,
      steps_by c.args.check (epoch_of (state_of hub.engine) c.args.check) c.step-made.result c.answer.result
          hub.engine c.step-made.new.self hub.rewriter (both_pools hub.pools hub.tags) hub.moment
          c.answer.ensures.result made.promised made.err made.kept,
    )
