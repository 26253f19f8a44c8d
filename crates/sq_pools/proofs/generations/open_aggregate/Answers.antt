use Rattle.std.proofs.Common.{◌≡◌, ◌∙◌, None, Some, [], ◌∷◌, slice_get, sym, ap}
use Rattle.sq_machine.specs.PoolReadings.{bucket_pairs, has_spot}
use Rattle.sq_buckets.specs.Grants.{bucket_at, filled_if, is_aggregate_of, opened_in}
use Rattle.sq_pools.proofs.AggregateLaws.{aggregate_is, aggregate_unlimited, or_no}
use Rattle.sq_pools.proofs.GenerationLaws.{filled_other}
use Rattle.sq_pools.proofs.generations.open_aggregate.Goals as goal

pub returns-in-Some-None : goal.returns-in-Some-None
returns-in-Some-None c = λ s.
    let first : slice_get (bucket_pairs c.args.pool.now) 0 ≡ Some None =
    rw (← c.bucket_pairs.ensures) (sym c.in-Some-None.ensures.value ∙ ap (λ o. Some o) c.in-Some-None.field-0-is) in
    rw (aggregate_unlimited c.args.place c.args.pool.now s first)
    (filled_other (opened_in c.args.initial 0 s) (bucket_at c.args.buckets.now s))

pub returns-in_ok-open-in-Some-Some : goal.returns-in_ok-open-in-Some-Some
returns-in_ok-open-in-Some-Some c = λ s.
    let first : slice_get (bucket_pairs c.args.pool.now) 0 ≡ Some (Some c.in-Some-Some.limit) =
    rw (← c.bucket_pairs.ensures) (sym c.in-Some-Some.ensures.value ∙ ap (λ o. Some o) c.in-Some-Some.field-0-is) in
    let one : has_spot (c.of_host-spot.result ∷ []) s ≡ is_aggregate_of c.args.place c.args.pool.now s =
    rw c.of_host-spot.ensures
    (or_no _ ∙ sym (aggregate_is c.args.place c.args.pool.now c.in-Some-Some.limit s first)) in
    c.in_ok-open-in-Some-Some.ensures.ok s
    ∙ ap (λ b. filled_if b (opened_in c.args.initial 0 s) (bucket_at c.args.buckets.now s)) one
