use Rattle.std.proofs.Common.{refl}
use Rattle.sq_mem_hub.specs.MemHubs.{both_pools}
use Rattle.sq_mem_hub.proofs.CallLaws.{takes_by}
use Rattle.sq_mem_hub.proofs.mem_hub.MemHubHub.take.Goals as goal

pub returns-clause-told : goal.returns-clause-told
returns-clause-told g c =
    let hub = c.args.self.now in
    let made = c.take-made.ensures in (
      _,
      refl,
      takes_by c.args.check c.take-made.result c.answer.result hub.engine c.take-made.new.self hub.rewriter
          (both_pools hub.pools hub.tags)
          hub.moment c.answer.ensures.result made.told made.record made.promised made.err made.kept,
    )
