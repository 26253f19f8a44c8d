use Rattle.std.proofs.Common.{◌≡◌, ◌==◌, ◌&&◌, ◌||◌, ◌≤◌, ◌<◌, ◌+◌, cond, suc, max, is_none, ℕ, Some, ap, sym, ◌∙◌, arith, add-one}
use Rattle.sq_machine.specs.Limits.{last_number}
use Rattle.sq_machine.specs.PoolReadings.{Sat, BucketSpot, has_spot, is_aggregate, made_if}
use Rattle.sq_pools.specs.Generations.{filled_at, held_at, made_at, second_at}
use Rattle.sq_buckets.specs.Grants.{filled_if, opened_in}
use Rattle.sq_pools.specs.Seats.{seat_at}
use Rattle.sq_pools.proofs.BasinLaws.{IsLoose, basin, chosen_loose, held_few, is_seated, retired_basin}
use Rattle.sq_pools.proofs.pools.Pools.sit.Goals as goal

pub seat_one-requires-clause-held : goal.seat_one-requires-clause-held
seat_one-requires-clause-held c =
    let p = c.self.inside in
    held_few p.generations p.seats p.given p.newest p.latest p.granted c.args.seated.epoch c.self.invariant

pub invariant_of-self-2 : goal.invariant_of-self-2
invariant_of-self-2 c =
    let p = c.self.inside in
    let n : ℕ = p.given in
    let u : ℕ = c.later-now.result in
    let v : ℕ = c.newer-newest.result in
    let sat : Sat = c.args.seated in
    let place : n + 1 ≡ suc n = add-one n in
    let rest : (i : ℕ) → seat_at c.seat_one.new.seats i ≡ cond (i == suc n) (Some sat) (seat_at p.seats i) = rw place
    at c.in_ok-seat_one.ensures.seats in
    let made : (e : ℕ) → made_at c.seat_one.new.generations e ≡ made_if (e == sat.epoch) u (made_at p.generations e) =
    c.in_ok-seat_one.ensures.made in
    let held : (e : ℕ) → held_at c.seat_one.new.generations e
    ≡ cond (e == sat.epoch) (suc (held_at p.generations e)) (held_at p.generations e) = c.in_ok-seat_one.ensures.held in
    let filled : (e : ℕ) (x : BucketSpot)
    → filled_at c.seat_one.new.generations e x
    ≡ filled_if (e == sat.epoch &&
    (has_spot sat.spots x || (is_none (made_at p.generations e) && is_aggregate c.args.pools.now x)))
    (opened_in c.args.initial (second_at c.seat_one.new.generations e u) x) (filled_at p.generations e x) =
    c.in_ok-seat_one.ensures.buckets in
    let below : suc n < last_number = rw (← c.self.view_is) at c.requires.spare in
    let spare : suc (suc n) ≤ last_number = omega arith in
    let later : p.latest ≤ u = let is : u ≡ max c.args.now p.latest = c.later-now.ensures in omega arith in
    let loose : IsLoose p.newest (basin c.seat_one.new.generations c.seat_one.new.seats (suc n) v u p.granted) =
    chosen_loose p.generations c.seat_one.new.generations p.seats c.seat_one.new.seats n p.newest v p.latest u p.granted
    c.args.initial sat (is_aggregate c.args.pools.now)
    c.self.invariant later spare c.requires.own rest made held filled in
    rw place (retired_basin p.newest c.seat_one.new.generations c.retire.new.self c.seat_one.new.seats (suc n) v u
    p.granted loose c.retire.ensures.made c.retire.ensures.held c.retire.ensures.buckets)

pub returns-clause-seated : goal.returns-clause-seated
returns-clause-seated c =
    let p = c.self.inside in
    let n : ℕ = p.given in
    let u : ℕ = c.later-now.result in
    let v : ℕ = c.newer-newest.result in
    let sat : Sat = c.args.seated in
    let place : n + 1 ≡ suc n = add-one n in
    let rest : (i : ℕ) → seat_at c.seat_one.new.seats i ≡ cond (i == suc n) (Some sat) (seat_at p.seats i) = rw place
    at c.in_ok-seat_one.ensures.seats in
    let made : (e : ℕ) → made_at c.seat_one.new.generations e ≡ made_if (e == sat.epoch) u (made_at p.generations e) =
    c.in_ok-seat_one.ensures.made in
    let held : (e : ℕ) → held_at c.seat_one.new.generations e
    ≡ cond (e == sat.epoch) (suc (held_at p.generations e)) (held_at p.generations e) = c.in_ok-seat_one.ensures.held in
    let filled : (e : ℕ) (x : BucketSpot)
    → filled_at c.seat_one.new.generations e x
    ≡ filled_if (e == sat.epoch &&
    (has_spot sat.spots x || (is_none (made_at p.generations e) && is_aggregate c.args.pools.now x)))
    (opened_in c.args.initial (second_at c.seat_one.new.generations e u) x) (filled_at p.generations e x) =
    c.in_ok-seat_one.ensures.buckets in
    let below : suc n < last_number = rw (← c.self.view_is) at c.requires.spare in
    let spare : suc (suc n) ≤ last_number = omega arith in
    let later : p.latest ≤ u = let is : u ≡ max c.args.now p.latest = c.later-now.ensures in omega arith in
    let loose : IsLoose p.newest (basin c.seat_one.new.generations c.seat_one.new.seats (suc n) v u p.granted) =
    chosen_loose p.generations c.seat_one.new.generations p.seats c.seat_one.new.seats n p.newest v p.latest u p.granted
    c.args.initial sat (is_aggregate c.args.pools.now)
    c.self.invariant later spare c.requires.own rest made held filled in
    let newest : max p.newest sat.epoch ≡ v =
    ap (λ (x : Sat). max p.newest x.epoch) (sym c.seated.view_is) ∙ sym c.newer-newest.ensures in
    let now : max c.args.now p.latest ≡ u = sym c.later-now.ensures in
    let seated = is_seated p.generations c.seat_one.new.generations c.retire.new.self p.seats c.seat_one.new.seats n
    p.newest p.latest u p.granted sat (record { initial = c.args.initial; pools = c.args.pools.now })
    (rw newest loose) rest made filled (rw newest c.retire.ensures.made)
    (rw newest c.retire.ensures.buckets) in
    rw (← c.self.view_is, place, now) (rw newest at seated)
