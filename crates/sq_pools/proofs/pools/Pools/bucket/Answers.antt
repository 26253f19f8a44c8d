use Rattle.std.proofs.Common.{◌≡◌, ◌∙◌, Some, is_none, false, length, refl, sym, ap, slice_get}
use Rattle.std.proofs.lemmas.Option.{slice_get_read}
use Rattle.sq_machine.specs.PoolReadings.{Sat}
use Rattle.sq_pools.specs.Basins.{tally_then}
use Rattle.sq_pools.specs.Seats.{seat_at}
use Rattle.sq_pools.proofs.BasinLaws.{basin}
use Rattle.sq_pools.proofs.DryLaws.{bucket_there}
use Rattle.sq_pools.proofs.pools.Pools.bucket.Goals as goal

pub returns-clause-none : goal.returns-clause-none
returns-clause-none c =
    let p = c.self.inside in
    let x = c.in_ok-spot.spot.now in
    let sat : Sat = record {
      epoch = c.seated.inside.epoch;
      pool = c.seated.inside.pool;
      spots = c.seated.inside.spots;
    } in
    let seat : seat_at p.seats c.number.result ≡ Some sat = sym c.in_ok-seated.ensures
    ∙ ap (λ (y : Sat). Some y) (sym c.seated.view_is) in
    let xs = c.as_slice.result.now in
    let read = c.in_ok-spot.ensures.lookup in
    let at : slice_get sat.spots c.args.i ≡ Some x =
    ap (λ ys. slice_get ys c.args.i) (sym c.as_slice.ensures)
    ∙ slice_get_read xs (length xs) c.args.i x refl read.3.0 read.1 in
    let there : is_none (tally_then (basin p.generations p.seats p.given p.newest p.latest p.granted) p.latest sat.epoch
    x) ≡ false =
    bucket_there p.generations p.seats p.given p.newest p.latest p.granted c.number.result p.latest c.args.i sat x
    c.self.invariant seat at in
    rw (← c.self.view_is, ← c.number.ensures, seat, at) (ap is_none c.bucket.ensures ∙ there)
