-- What a past says to pools of the one kind and of the other: no seat is in use in both.
use Rattle.std.proofs.Common.{◌≡◌, ◌<◌, ◌||◌, ◌==◌, ℕ, suc, List, [], ◌∷◌, Bool, true, false, if◌then◌else◌, Option, Some, None, is_some, refl, sym, ap, subst, ◌∙◌, arith}
use Rattle.std.proofs.lemmas.Bool.Decides.{nat_tests}
use Rattle.sq_base.specs.Addresses.{Address}
use Rattle.sq_base.specs.declared.helpers.Answer.{Answer}
use Rattle.sq_machine.specs.declared.entries.Event.{Event}
use Rattle.sq_machine.specs.declared.entries.Event.TheVariants.{Begin, Reconfigure, Seat, Grant, Leave}
use Rattle.sq_machine.specs.declared.entries.Told.{Told}
use Rattle.sq_machine.specs.declared.entries.Told.TheVariants as told
use Rattle.sq_machine.specs.declared.places.SeatPlace.{SeatPlace}
use Rattle.sq_machine.specs.declared.places.SeatPlace.TheVariants.{Nowhere, ByAddress, ByTag}
use Rattle.sq_rules.specs.Configurations.{Configuration}
use Rattle.sq_machine.specs.Checks.{Asked, numbered}
use Rattle.sq_machine.specs.Epochs.{config_of}
use Rattle.sq_machine.specs.Marks.{Past, entries}
use Rattle.sq_machine.specs.PoolHistories.{Addressed, Tagged, begins_in, pool_event, pool_history, sits_at, sits_by, sits_in}
use Rattle.sq_machine.specs.PoolReadings.{Begins, Grants, Leaves, Passes, PoolEvent, PoolHistory, Rests, Sits, count_if, in_use, in_use_after, sat_at, seat_count, takes_number}
use Rattle.sq_machine.specs.Readings.{current}
use Rattle.sq_machine.specs.SeatPlaces.{seat_place}
use Rattle.sq_machine.specs.TakenRecords.{allowed_of, taken_answers}

-- what one entry says to both: a seat that is given in the one takes a number in the other, and all else is alike
abbrev AreBeside : PoolEvent → PoolEvent → Type 0
AreBeside (Begins e b) (Begins k c) = Unit {0}
AreBeside (Sits sat b) Passes = Unit {0}
AreBeside Passes (Sits sat b) = Unit {0}
AreBeside (Grants n wanted amount) (Grants m w a) = Unit {0}
AreBeside (Leaves n) (Leaves m) = n ≡ m
AreBeside Rests Rests = Unit {0}
AreBeside a t = ⊥

begins_beside : (e : ℕ) (o : Option Configuration) → AreBeside (begins_in Addressed e o) (begins_in Tagged e o)
begins_beside e None = tt
begins_beside e (Some c) = tt

place_beside : (e : ℕ) (c : Configuration) (a : Address) (place : SeatPlace)
    → AreBeside (sits_at Addressed e c a place) (sits_at Tagged e c a place)
place_beside e c a Nowhere = tt
place_beside e c a (ByAddress pool) = tt
place_beside e c a (ByTag pool tag) = tt

record_beside : (answers : List Answer) (a : Asked) (o : Option Configuration)
    → AreBeside (sits_in Addressed answers a o) (sits_in Tagged answers a o)
record_beside answers a None = tt
record_beside answers a (Some c) = place_beside a.epoch c a.sight.addr (seat_place c a.sight answers)

seats_beside : (configs : List Configuration) (answers : List Answer) (o : Option Asked)
    → AreBeside (sits_by Addressed configs answers o) (sits_by Tagged configs answers o)
seats_beside configs answers None = tt
seats_beside configs answers (Some a) = record_beside answers a (config_of configs a.epoch)

beside : (configs : List Configuration) (m : Past) (event : Event) (answer : Told)
    → AreBeside (pool_event Addressed configs m event answer) (pool_event Tagged configs m event answer)
beside configs m (Begin offset) answer = begins_beside 1 (config_of configs 1)
beside configs m (Reconfigure text) answer =
    begins_beside (suc (current (entries m))) (config_of configs (suc (current (entries m))))
beside configs m (Seat c) (told.Seat n pool) =
    seats_beside configs (taken_answers configs m c) (allowed_of (entries m) c)
beside configs m (Seat c) answer = tt
beside configs m (Grant n wanted) (told.Granted amount) = tt
beside configs m (Grant n wanted) answer = tt
beside configs m (Leave n) answer = refl
beside configs m event answer = tt

-- so both count the same numbers

even_by : (a t : PoolEvent) (n : ℕ) → AreBeside a t → count_if (takes_number t) n ≡ count_if (takes_number a) n
even_by (Begins e b) (Begins k c) n is = refl
even_by (Sits sat b) Passes n is = refl
even_by Passes (Sits sat b) n is = refl
even_by (Grants n wanted amount) (Grants m w a) k is = refl
even_by (Leaves n) (Leaves m) k is = refl
even_by Rests Rests n is = refl
even_by a t n is = absurd is

even : (configs : List Configuration) (m : Past)
    → seat_count (pool_history Tagged configs m) ≡ seat_count (pool_history Addressed configs m)
even configs [] = refl
even configs (x ∷ m) =
    ap (count_if (takes_number (pool_event Tagged configs m x.entry.event x.entry.answer))) (even configs m)
    ∙ even_by (pool_event Addressed configs m x.entry.event x.entry.answer)
    (pool_event Tagged configs m x.entry.event x.entry.answer) (seat_count (pool_history Addressed configs m))
    (beside configs m x.entry.event x.entry.answer)

-- and a number that was not given yet is not in use

unborn_by : (event : PoolEvent) (n count : ℕ) (u : Bool) → count_if (takes_number event) count < n
    → (count < n → u ≡ false)
    → in_use_after n event (is_some (numbered n count (sat_at event))) u ≡ false
unborn_by (Leaves k) n count u low before = by (k == n)
  where
    by : (b : Bool) → (if b then false else u) ≡ false
    by true = refl
    by false = before low
unborn_by (Sits sat b) n count u low before =
    let other : (n == suc count) ≡ false = grind (arith, nat_tests) in
    ap (λ (t : Bool). is_some (if t then Some sat else None) || u) other ∙ before (omega arith)
unborn_by Passes n count u low before = before (omega arith)
unborn_by (Begins e b) n count u low before = before low
unborn_by (Grants k wanted amount) n count u low before = before low
unborn_by Rests n count u low before = before low

unborn : (h : PoolHistory) (n : ℕ) → seat_count h < n → in_use h n ≡ false
unborn [] n low = refl
unborn (x ∷ h) n low = unborn_by x.event n (seat_count h) (in_use h n) low (unborn h n)

-- so no seat is in use in both

apart_by : (a t : PoolEvent) (n count : ℕ) (u w : Bool) → AreBeside a t → (u ≡ true → w ≡ false)
    → (count < n → u ≡ false) → (count < n → w ≡ false)
    → in_use_after n a (is_some (numbered n count (sat_at a))) u ≡ true
    → in_use_after n t (is_some (numbered n count (sat_at t))) w ≡ false
apart_by (Begins e b) (Begins k c) n count u w is apart fresh new used = apart used
apart_by (Sits sat b) Passes n count u w is apart fresh new used = by (n == suc count) refl used
  where
    by : (t : Bool) → (n == suc count) ≡ t → (is_some (if t then Some sat else None) || u) ≡ true → w ≡ false
    by true e used = new (grind (arith, nat_tests, e))
    by false e used = apart used
apart_by Passes (Sits sat b) n count u w is apart fresh new used = by (n == suc count) refl
  where
    by : (t : Bool) → (n == suc count) ≡ t → (is_some (if t then Some sat else None) || w) ≡ false
    by true e =
        let none : u ≡ false = fresh (grind (arith, nat_tests, e)) in
        absurd (let no : true ≡ false = sym used ∙ none in cc)
    by false e = apart used
apart_by (Grants k wanted amount) (Grants m x a) n count u w is apart fresh new used = apart used
apart_by (Leaves k) (Leaves m) n count u w is apart fresh new used =
    ap (λ (j : ℕ). if j == n then false else w) (sym is) ∙ by (k == n) used
  where
    by : (t : Bool) → (if t then false else u) ≡ true → (if t then false else w) ≡ false
    by true used = refl
    by false used = apart used
apart_by Rests Rests n count u w is apart fresh new used = apart used
apart_by a t n count u w is apart fresh new used = absurd is

pub apart_kinds : (configs : List Configuration) (m : Past) (n : ℕ)
    → in_use (pool_history Addressed configs m) n ≡ true → in_use (pool_history Tagged configs m) n ≡ false
apart_kinds configs [] n used = refl
apart_kinds configs (x ∷ m) n used =
    let p = pool_history Addressed configs m in
    let t = pool_history Tagged configs m in
    let e = pool_event Tagged configs m x.entry.event x.entry.answer in
    ap (λ (k : ℕ). in_use_after n e (is_some (numbered n k (sat_at e))) (in_use t n)) (even configs m)
    ∙ apart_by (pool_event Addressed configs m x.entry.event x.entry.answer) e n (seat_count p) (in_use p n)
    (in_use t n) (beside configs m x.entry.event x.entry.answer) (apart_kinds configs m n) (unborn p n)
    (λ low. unborn t n (subst (λ (k : ℕ). k < n) (sym (even configs m)) low)) used
