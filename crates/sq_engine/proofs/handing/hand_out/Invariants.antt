use Rattle.sq_engine.proofs.HandingLaws.{IsHanding, losses_at}
use Rattle.sq_engine.proofs.handing.hand_out.Given as goal

abbrev pub invariant-loop-lost : goal.invariant-loop-lost
invariant-loop-lost l = IsHanding l.epoch l.class l.now l.initial.epochs l.epochs l.initial.checks l.checks

abbrev pub decreases-loop-lost : goal.decreases-loop-lost
decreases-loop-lost l = losses_at l.epochs l.epoch l.class
