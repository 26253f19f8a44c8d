use Rattle.std.proofs.Common.{length}
use Rattle.sq_rewrite.proofs.HandLaws.{Gives}
use Rattle.sq_rewrite.proofs.pumping.ScopeKeepers.hand_out.Given as goal

abbrev pub invariant-loop-half : goal.invariant-loop-half
invariant-loop-half g l = Gives l.fn.pump l.fn.self.counts l.pump l.self.counts

abbrev pub decreases-loop-half : goal.decreases-loop-half
decreases-loop-half g l = length l.pump.readers
