use Rattle.std.proofs.Common.{◌≡◌, length}
use Rattle.sq_base.specs.Replies.{pairs_of, in_front}
use Rattle.sq_reply.proofs.pairs.take_pairs.Given as goal

-- the pairs so far stand in front of those of the rest
abbrev pub invariant-loop-rest : goal.invariant-loop-rest
invariant-loop-rest l = in_front l.pairs (pairs_of l.rest) ≡ pairs_of l.bytes

abbrev pub decreases-loop-rest : goal.decreases-loop-rest
decreases-loop-rest l = length l.rest
