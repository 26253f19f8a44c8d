use Rattle.std.proofs.Common.{sym, subst}
use Rattle.sq_turns.specs.Tellings.{Waited}
use Rattle.sq_mem_hub.specs.MemHubs.{hub_state}
use Rattle.sq_mem_hub.proofs.WaitLaws.{waited_act, waited_then}
use Rattle.sq_mem_hub.proofs.acting.act_all.Goals as goal

pub loop-preserved : goal.loop-preserved
loop-preserved g c rewriter pools =
    let acted = waited_act c.loop.engine c.act.new.self rewriter pools c.args.moment c.in-Some-act.act
    c.in-Some-act.ensures.checks c.in-Some-act.ensures.promised in
    waited_then _ _ _ (waited_then _ _ _ (c.loop.invariant rewriter pools) acted)
    (c.perform.ensures.waited rewriter pools)

pub returns-in-None-act : goal.returns-in-None-act
returns-in-None-act g c = record {
  waited = λ rewriter pools.
      subst (λ e. Waited (hub_state c.args.engine.now rewriter pools c.args.moment)
      (hub_state e rewriter pools c.args.moment))
      (sym c.in-None-act.ensures.none) (c.loop.invariant rewriter pools);
}
