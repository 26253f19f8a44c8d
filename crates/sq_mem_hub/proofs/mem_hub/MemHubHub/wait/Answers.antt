use Rattle.std.proofs.Common.{refl}
use Rattle.sq_turns.proofs.WorkLaws.{works_then}
use Rattle.sq_mem_hub.specs.MemHubs.{both_pools}
use Rattle.sq_mem_hub.proofs.WaitLaws.{waited_then, waited_works}
use Rattle.sq_mem_hub.proofs.mem_hub.MemHubHub.wait.Goals as goal

pub returns-then-self-clause-told : goal.returns-then-self-clause-told
returns-then-self-clause-told g c =
    let hub = c.args.self.now in (
      _,
      refl,
      waited_works hub.engine hub.rewriter c.hear_rewriter.new.rewriter (both_pools hub.pools hub.tags) hub.moment
          (works_then hub.rewriter c.work.new.rewriter c.hear_rewriter.new.rewriter c.work.ensures.works
          c.hear_rewriter.ensures.works),
    )

pub returns-clause-told : goal.returns-clause-told
returns-clause-told g c =
    let rewriter = c.args.self.now.rewriter in
    let pools = both_pools c.args.self.now.pools c.args.self.now.tags in
    (_, refl, waited_then _ _ _ (c.act_all.ensures.waited rewriter pools) (c.hear.ensures.waited rewriter pools))
