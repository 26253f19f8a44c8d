use Rattle.std.proofs.Common.{length}
use Rattle.sq_buckets.proofs.buckets.Buckets.+open.Given as goal

abbrev pub decreases-open : goal.decreases-open
decreases-open l = length l.spots.now
