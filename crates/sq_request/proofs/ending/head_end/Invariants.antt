use Rattle.std.proofs.Common.{length}
use Rattle.sq_request.proofs.EndLaws.{LeavesEnd}
use Rattle.sq_request.proofs.ending.head_end.Given as goal

abbrev pub invariant-loop-len : goal.invariant-loop-len
invariant-loop-len l = LeavesEnd l.passed l.begun l.rest l.bytes

abbrev pub decreases-loop-len : goal.decreases-loop-len
decreases-loop-len l = length l.rest
