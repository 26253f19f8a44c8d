use Rattle.std.proofs.Common.{◌≡◌, ◌&&◌, nat_lt, None}
use Rattle.sq_machine.specs.PoolReadings.{BucketSpot, is_aggregate}
use Rattle.sq_buckets.specs.Grants.{bucket_at, filled_if, opened_in}
use Rattle.sq_pools.proofs.generations.aggregates.Given as goal

-- the aggregate buckets of the pools so far are open
abbrev pub invariant-loop-pool : goal.invariant-loop-pool
invariant-loop-pool l = record {
  are : (s : BucketSpot) → bucket_at l.buckets s
      ≡ filled_if (nat_lt s.pool l.pool-index && is_aggregate l.pools s) (opened_in l.fn.initial 0 s) None;
  counted : l.place ≡ l.pool-index;
}
