use Rattle.std.proofs.Common.{◌∙◌, ap}
use Rattle.std.specs.Option.{option_map}
use Rattle.sq_machine.specs.PoolReadings.{is_spot}
use Rattle.sq_buckets.specs.Grants.{bucket_at, granted_if}
use Rattle.sq_buckets.proofs.BucketLaws.{amount_fits, granted_more}
use Rattle.sq_buckets.proofs.buckets.Buckets.grant.Goals as goal

pub draw-requires-clause-amount : goal.draw-requires-clause-amount
draw-requires-clause-amount c =
    amount_fits c.args.second c.least-amount.result c.args.wanted c.args.spots.now c.loop-spot.spot-index
    c.spot-item.result c.args.self.now c.loop-spot.self
    c.least-amount.ensures c.requires.own c.loop-spot-test.true c.loop-spot.invariant c.spot-item.is

pub loop-spot-preserved : goal.loop-spot-preserved
loop-spot-preserved c =
    granted_more c.args.second c.least-amount.result c.args.spots.now c.loop-spot.spot-index c.spot-item.result
    c.args.self.now c.loop-spot.self c.draw.new.self
    c.requires.own c.loop-spot-test.true c.loop-spot.invariant
    (λ s. c.draw.ensures s ∙
    ap (λ n. option_map (granted_if (is_spot n s) c.args.second c.least-amount.result) (bucket_at c.loop-spot.self s))
    c.spot-item.is)
