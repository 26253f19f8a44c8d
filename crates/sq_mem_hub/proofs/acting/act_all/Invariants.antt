use Rattle.std.proofs.Common.{Option}
use Rattle.sq_rewrite.specs.States.{RewriteState}
use Rattle.sq_turns.specs.Tellings.{Waited}
use Rattle.sq_turns.specs.Tellings.{DelayPools}
use Rattle.sq_mem_hub.specs.MemHubs.{hub_state}
use Rattle.sq_mem_hub.proofs.acting.act_all.Given as goal

-- events came that no connection makes
abbrev pub invariant-loop : goal.invariant-loop
invariant-loop g l = (rewriter : Option RewriteState) (pools : DelayPools)
    → Waited (hub_state l.fn.engine rewriter pools l.moment) (hub_state l.engine rewriter pools l.moment)
