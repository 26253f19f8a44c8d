use Rattle.std.proofs.Common.{take}
use Rattle.sq_buckets.proofs.BucketLaws.{HaveGranted}
use Rattle.sq_buckets.proofs.buckets.Buckets.grant.Given as goal

-- the buckets so far have granted
abbrev pub invariant-loop-spot : goal.invariant-loop-spot
invariant-loop-spot l = HaveGranted l.second l.amount (take l.spot-index l.spots) l.initial.self l.self
