use Rattle.std.proofs.Common.{sym, subst}
use Rattle.sq_turns.specs.Tellings.{Waited}
use Rattle.sq_mem_hub.specs.MemHubs.{hub_state}
use Rattle.sq_mem_hub.proofs.WaitLaws.{waited_self}
use Rattle.sq_mem_hub.proofs.acting.perform.Goals as goal
use Rattle.sq_mem_hub.proofs.acting.perform.Goals.{in-Stop, in-Send, in-Start}

pub returns : goal.returns
returns c =
    let before = c.args.engine.now in
    let now = c.args.moment in
    record {
      waited = λ rewriter pools.
          elim c.match-act.branch [
            | in-Stop w ↦ subst (λ e. Waited (hub_state before rewriter pools now) (hub_state e rewriter pools now))
                (sym w.engine-is)
                (waited_self (hub_state before rewriter pools now))
            | in-Send w ↦ subst (λ e. Waited (hub_state before rewriter pools now) (hub_state e rewriter pools now))
                (sym w.engine-is)
                (waited_self (hub_state before rewriter pools now))
            | in-Start w ↦ subst (λ e. Waited (hub_state before rewriter pools now) (hub_state e rewriter pools now))
                (sym w.engine-is)
                (w.start.ensures.waited rewriter pools)
          ];
    }
