use Rattle.std.proofs.Common.{refl}
use Rattle.sq_mem_hub.specs.MemHubs.{both_pools}
use Rattle.sq_mem_hub.proofs.CallLaws.{asks_by}
use Rattle.sq_mem_hub.proofs.mem_hub.MemHubHub.ask.Goals as goal

pub returns-clause-told : goal.returns-clause-told
returns-clause-told g c =
    let hub = c.args.self.now in
    let made = c.ask-made.ensures in (
      _,
      refl,
      asks_by c.args.conn c.args.request c.ask-made.result c.answer-said.result hub.engine c.ask-made.new.self
          hub.rewriter (both_pools hub.pools hub.tags) hub.moment c.answer-said.ensures.result
          (made.promised _ _ _ c.formed.ensures.parts c.formed.ensures.target)
          made.err made.begun,
    )
