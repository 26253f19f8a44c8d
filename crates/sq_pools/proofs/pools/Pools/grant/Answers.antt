use Rattle.std.proofs.Common.{◌≡◌, ◌∙◌, ◌==◌, ◌≤◌, Some, sym, ap, subst}
use Rattle.sq_machine.specs.PoolReadings.{Sat}
use Rattle.sq_pools.specs.Basins.{is_dry}
use Rattle.sq_pools.specs.Generations.{buckets_at, second_at}
use Rattle.sq_buckets.specs.Grants.{least_at}
use Rattle.sq_pools.specs.Seats.{seat_at}
use Rattle.sq_pools.proofs.BasinLaws.{basin, seat_made, seat_there}
use Rattle.sq_buckets.proofs.BucketLaws.{least_below}
use Rattle.sq_pools.proofs.DryLaws.{grant_dry}
use Rattle.sq_pools.proofs.pools.Pools.grant.Goals as goal

pub grant-amount-requires-clause-made : goal.grant-amount-requires-clause-made
grant-amount-requires-clause-made c =
    let p = c.self.inside in
    let sat : Sat = record {
      epoch = c.seated.inside.epoch;
      pool = c.seated.inside.pool;
      spots = c.seated.inside.spots;
    } in
    let seat : seat_at p.seats c.number.result ≡ Some sat = sym c.in-Some.ensures
    ∙ ap (λ (x : Sat). Some x) (sym c.seated.view_is) in
    seat_made p.generations p.seats p.given p.newest p.latest p.granted c.number.result sat c.self.invariant seat

pub grant-amount-requires-clause-there : goal.grant-amount-requires-clause-there
grant-amount-requires-clause-there c =
    let p = c.self.inside in
    let sat : Sat = record {
      epoch = c.seated.inside.epoch;
      pool = c.seated.inside.pool;
      spots = c.seated.inside.spots;
    } in
    let seat : seat_at p.seats c.number.result ≡ Some sat = sym c.in-Some.ensures
    ∙ ap (λ (x : Sat). Some x) (sym c.seated.view_is) in
    rw c.as_slice.ensures (seat_there p.generations p.seats p.given p.newest p.latest p.granted c.number.result sat
    c.self.invariant seat)

pub returns-clause-within : goal.returns-clause-within
returns-clause-within c =
    let p = c.self.inside in
    let e = c.seated.inside.epoch in
    let u = c.later-self-inside.result in
    subst (λ n. n ≤ c.args.wanted) (sym c.grant-amount.ensures.amount)
    (least_below (second_at p.generations e u) (buckets_at p.generations e) c.as_slice.result.now c.args.wanted)

pub returns-clause-nothing : goal.returns-clause-nothing
returns-clause-nothing c = λ some.
    let p = c.self.inside in
    let u = c.later-self-inside.result in
    let sat : Sat = record {
      epoch = c.seated.inside.epoch;
      pool = c.seated.inside.pool;
      spots = c.seated.inside.spots;
    } in
    let seat : seat_at p.seats c.number.result ≡ Some sat = sym c.in-Some.ensures
    ∙ ap (λ (x : Sat). Some x) (sym c.seated.view_is) in
    let least = least_at (second_at p.generations sat.epoch u) (buckets_at p.generations sat.epoch) in
    let dry : (least sat.spots c.args.wanted == 0)
    ≡ is_dry (basin p.generations p.seats p.given p.newest p.latest p.granted) u (Some sat) =
    grant_dry p.generations p.seats p.given p.newest p.latest p.granted c.number.result u c.args.wanted sat
    c.self.invariant seat some in
    let amount : c.grant-amount.result ≡ least sat.spots c.args.wanted = c.grant-amount.ensures.amount
    ∙ ap (λ xs. least xs c.args.wanted) c.as_slice.ensures in
    rw (← c.self.view_is, ← c.number.ensures, seat, ← c.later-self-inside.ensures) (ap (λ n. n == 0) amount ∙ dry)
