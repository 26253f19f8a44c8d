use Rattle.sq_machine.specs.PoolReadings.{bucket_pairs}
use Rattle.sq_buckets.proofs.SpotLaws.{own_spots}
use Rattle.sq_pools.proofs.pools.Pools.choose.Goals as goal

pub sit-requires-clause-own : goal.sit-requires-clause-own
sit-requires-clause-own c =
    rw c.in_ok-spots.ensures
    (own_spots c.args.pool c.in-Some.taken.now.class c.args.addr.number 0 (bucket_pairs c.in-Some.taken.now))
