use Rattle.std.proofs.Common.{◌≡◌, drop}
use Rattle.sq_buckets.specs.Grants.{least_at}
use Rattle.sq_buckets.proofs.buckets.Buckets.least.Given as goal

-- the least is that of what came so far, read on
abbrev pub invariant-loop-spot : goal.invariant-loop-spot
invariant-loop-spot l = least_at l.second l.self (drop l.spot-index l.spots) l.least
    ≡ least_at l.second l.self l.spots l.wanted
