use Rattle.std.proofs.Common.{◌≡◌, ◌∙◌, Some, sym, ap}
use Rattle.sq_machine.specs.PoolReadings.{Sat}
use Rattle.sq_pools.specs.Seats.{seat_at}
use Rattle.sq_pools.proofs.BasinLaws.{IsLoose, basin, has_left, held_some, left_loose, retired_basin}
use Rattle.sq_pools.proofs.pools.Pools.leave.Goals as goal

pub release-requires : goal.release-requires
release-requires c =
    let p = c.self.inside in
    let sat : Sat = record {
      epoch = c.seated.inside.epoch;
      pool = c.seated.inside.pool;
      spots = c.seated.inside.spots;
    } in
    let seat : seat_at p.seats c.number.result ≡ Some sat = sym c.in-Some.ensures.seat
    ∙ ap (λ (x : Sat). Some x) (sym c.seated.view_is) in
    held_some p.generations p.seats p.given p.newest p.latest p.granted c.number.result sat c.self.invariant seat

pub invariant_of-self : goal.invariant_of-self
invariant_of-self c =
    let p = c.self.inside in
    let sat : Sat = record {
      epoch = c.seated.inside.epoch;
      pool = c.seated.inside.pool;
      spots = c.seated.inside.spots;
    } in
    let seat : seat_at p.seats c.number.result ≡ Some sat = sym c.in-Some.ensures.seat
    ∙ ap (λ (x : Sat). Some x) (sym c.seated.view_is) in
    let loose : IsLoose sat.epoch (basin c.release.new.self c.remove.new.self p.given p.newest p.latest p.granted) =
    left_loose p.generations c.release.new.self p.seats c.remove.new.self p.given p.newest p.latest p.granted
    c.number.result sat c.self.invariant seat
    c.remove.ensures.others c.release.ensures.made c.release.ensures.held c.release.ensures.buckets in
    retired_basin sat.epoch c.release.new.self c.retire.new.self c.remove.new.self p.given p.newest p.latest p.granted
    loose c.retire.ensures.made c.retire.ensures.held c.retire.ensures.buckets

pub returns-in-Some : goal.returns-in-Some
returns-in-Some c =
    let p = c.self.inside in
    let sat : Sat = record {
      epoch = c.seated.inside.epoch;
      pool = c.seated.inside.pool;
      spots = c.seated.inside.spots;
    } in
    let seat : seat_at p.seats c.number.result ≡ Some sat = sym c.in-Some.ensures.seat
    ∙ ap (λ (x : Sat). Some x) (sym c.seated.view_is) in
    let loose : IsLoose sat.epoch (basin c.release.new.self c.remove.new.self p.given p.newest p.latest p.granted) =
    left_loose p.generations c.release.new.self p.seats c.remove.new.self p.given p.newest p.latest p.granted
    c.number.result sat c.self.invariant seat
    c.remove.ensures.others c.release.ensures.made c.release.ensures.held c.release.ensures.buckets in
    rw (← c.self.view_is, ← c.number.ensures)
    (has_left p.generations c.release.new.self c.retire.new.self p.seats c.remove.new.self p.given p.newest p.latest
    p.granted c.number.result sat loose
    c.remove.ensures.others c.release.ensures.made c.release.ensures.buckets c.retire.ensures.made
    c.retire.ensures.buckets)
