use Rattle.std.proofs.Common.{◌≡◌, ◌++◌, drop}
use Rattle.sq_machine.specs.PoolReadings.{bucket_pairs, spots_from}
use Rattle.sq_buckets.proofs.spots.spots_of.Given as goal

-- the buckets so far, and those of the pairs that are left
abbrev pub invariant-loop-pair : goal.invariant-loop-pair
invariant-loop-pair l = record {
  rest : l.spots ++ spots_from l.place l.pool.class l.fn.addr.number l.pair_place
      (drop l.pair-index (bucket_pairs l.pool))
      ≡ spots_from l.place l.pool.class l.fn.addr.number 0 (bucket_pairs l.pool);
  counted : l.pair_place ≡ l.pair-index;
}
