use Rattle.std.proofs.Common.{◌≡◌, length}
use Rattle.std.specs.Option.{option_map}
use Rattle.sq_base.specs.Replies.{pairs_of}
use Rattle.sq_reply.specs.Words.{has_any}
use Rattle.sq_reply.proofs.WordLaws.{any_with}
use Rattle.sq_reply.proofs.pairs.has_pairs.Given as goal

-- a pair was found, or is found in the rest
abbrev pub invariant-loop-rest : goal.invariant-loop-rest
invariant-loop-rest l = any_with l.any (pairs_of l.rest) ≡ option_map has_any (pairs_of l.bytes)

abbrev pub decreases-loop-rest : goal.decreases-loop-rest
decreases-loop-rest l = length l.rest
