-- Pools of both kinds: what an entry of a history makes of them.
use Rattle.std.proofs.Common.{◌≡◌, ◌≤◌, ◌||◌, ◌==◌, ℕ, suc, List, [], ◌∷◌, Bool, true, false, if◌then◌else◌, Option, Some, None, is_some, refl, sym, ap, subst, ◌∙◌}
use Rattle.std.specs.Option.{option_or}
use Rattle.std.proofs.lemmas.Option.{none-some}
use Rattle.sq_machine.specs.declared.entries.Event.{Event}
use Rattle.sq_machine.specs.declared.entries.Event.TheVariants.{Begin, Reconfigure, Seat, Grant, Leave}
use Rattle.sq_machine.specs.declared.entries.Told.{Told}
use Rattle.sq_machine.specs.declared.entries.Told.TheVariants as told
use Rattle.sq_rules.specs.Configurations.{Configuration}
use Rattle.sq_base.specs.Addresses.{Address}
use Rattle.sq_base.specs.declared.helpers.Answer.{Answer}
use Rattle.sq_machine.specs.Checks.{Asked, numbered}
use Rattle.sq_machine.specs.Entries.{History, entry_at}
use Rattle.sq_machine.specs.Epochs.{config_of}
use Rattle.sq_machine.specs.Events.{begins_epoch, is_begin}
use Rattle.sq_machine.specs.Machine.{Legal}
use Rattle.sq_machine.specs.Marking.{marked}
use Rattle.sq_machine.specs.Marks.{Past, entries}
use Rattle.sq_machine.specs.PoolHistories.{Addressed, PoolKind, Tagged, begins_in, pool_event, pool_history, sits_at, sits_by, sits_in}
use Rattle.sq_machine.specs.PoolReadings.{Leaves, PoolEvent, PoolHistory, Rests, Sat, current_in, epoch_by, in_use, in_use_after, kept_if, latest_in, sat_at, seat_count, seat_of}
use Rattle.sq_machine.specs.Readings.{current, epoch_after, latest}
use Rattle.sq_machine.specs.SeatPlaces.{seat_place}
use Rattle.sq_machine.specs.TakenRecords.{allowed_of, taken_answers}
use Rattle.sq_machine.specs.declared.places.SeatPlace.{SeatPlace}
use Rattle.sq_machine.specs.declared.places.SeatPlace.TheVariants.{Nowhere, ByAddress, ByTag}
use Rattle.sq_model.proofs.LegalLaws.{marked_entries}
use Rattle.sq_pools.specs.Basins.{Basin, IsBasin, seat_in}
use Rattle.sq_pools.specs.Stands.{PoolsStand, entry}
use Rattle.sq_pools.proofs.StandLaws.{rest_stands}
use Rattle.sq_replay.specs.Riding.{AreBasins}
use Rattle.sq_replay.specs.Runs.{BothPools, BothStand}

-- what is read of a past and of what it says to pools

pub latest_kind : (kind : PoolKind) (configs : List Configuration) (h : History)
    → latest_in (pool_history kind configs (marked configs h)) ≡ latest h
latest_kind kind configs [] = refl
latest_kind kind configs (e ∷ h) = refl

sits_epoch : (kind : PoolKind) (e : ℕ) (c : Configuration) (a : Address) (place : SeatPlace) (n : ℕ)
    → epoch_by (sits_at kind e c a place) n ≡ n
sits_epoch kind e c a Nowhere n = refl
sits_epoch Addressed e c a (ByAddress pool) n = refl
sits_epoch Addressed e c a (ByTag pool tag) n = refl
sits_epoch Tagged e c a (ByAddress pool) n = refl
sits_epoch Tagged e c a (ByTag pool tag) n = refl

seats_epoch : (kind : PoolKind) (answers : List Answer) (a : Asked) (o : Option Configuration) (n : ℕ)
    → epoch_by (sits_in kind answers a o) n ≡ n
seats_epoch kind answers a None n = refl
seats_epoch kind answers a (Some c) n = sits_epoch kind a.epoch c a.sight.addr (seat_place c a.sight answers) n

seating_epoch : (kind : PoolKind) (configs : List Configuration) (answers : List Answer) (o : Option Asked) (n : ℕ)
    → epoch_by (sits_by kind configs answers o) n ≡ n
seating_epoch kind configs answers None n = refl
seating_epoch kind configs answers (Some a) n = seats_epoch kind answers a (config_of configs a.epoch) n

begins_epoch_by : (kind : PoolKind) (e : ℕ) (o : Option Configuration) (n : ℕ) → epoch_by (begins_in kind e o) n ≡ e
begins_epoch_by kind e None n = refl
begins_epoch_by Addressed e (Some c) n = refl
begins_epoch_by Tagged e (Some c) n = refl

epoch_kind : (kind : PoolKind) (configs : List Configuration) (m : Past) (event : Event) (answer : Told)
    → is_begin event ≡ false
    → epoch_by (pool_event kind configs m event answer) (current (entries m))
    ≡ epoch_after (begins_epoch event) (current (entries m))
epoch_kind kind configs m (Begin offset) answer b = absurd (cc)
epoch_kind kind configs m (Reconfigure text) answer b =
    begins_epoch_by kind (suc (current (entries m))) (config_of configs (suc (current (entries m))))
    (current (entries m))
epoch_kind kind configs m (Seat c) (told.Seat n pool) b =
    seating_epoch kind configs (taken_answers configs m c) (allowed_of (entries m) c) (current (entries m))
epoch_kind kind configs m (Seat c) answer b = refl
epoch_kind kind configs m (Grant n wanted) (told.Granted amount) b = refl
epoch_kind kind configs m (Grant n wanted) answer b = refl
epoch_kind kind configs m (Leave n) answer b = refl
epoch_kind kind configs m event answer b = refl

-- the current epoch
pub current_kind : (kind : PoolKind) (configs : List Configuration) (h : History) → Legal configs h
    → current_in (pool_history kind configs (marked configs h)) ≡ current h
current_kind kind configs [] legal = absurd legal
current_kind kind configs (e ∷ []) legal = by e.event legal.0
  where
    by : (event : Event) → is_begin event ≡ true
        → epoch_by (pool_event kind configs [] event e.answer) 1 ≡ epoch_after (begins_epoch event) 1
    by (Begin offset) b = begins_epoch_by kind 1 (config_of configs 1) 1
    by event b = absurd (cc)
current_kind kind configs (e ∷ f ∷ h) legal =
    let m = marked configs (f ∷ h) in
    let same : current (entries m) ≡ current (f ∷ h) = ap current (marked_entries configs (f ∷ h)) in
    ap (epoch_by (pool_event kind configs m e.event e.answer)) (current_kind kind configs (f ∷ h) legal.0 ∙ sym same)
    ∙ epoch_kind kind configs m e.event e.answer legal.1
    ∙ ap (epoch_after (begins_epoch e.event)) same

-- events of which no pools are told

abbrev pub is_elsewhere : Event → Told → Bool
is_elsewhere (Begin offset) answer = false
is_elsewhere (Reconfigure text) answer = false
is_elsewhere (Seat c) (told.Seat n pool) = false
is_elsewhere (Grant n wanted) answer = false
is_elsewhere (Leave n) answer = false
is_elsewhere event answer = true

elsewhere : (kind : PoolKind) (configs : List Configuration) (m : Past) (event : Event) (answer : Told)
    → is_elsewhere event answer ≡ true → pool_event kind configs m event answer ≡ Rests
elsewhere kind configs m (Begin offset) answer e = absurd (cc)
elsewhere kind configs m (Reconfigure text) answer e = absurd (cc)
elsewhere kind configs m (Seat c) (told.Seat n pool) e = absurd (cc)
elsewhere kind configs m (Seat c) answer e = refl
elsewhere kind configs m (Grant n wanted) answer e = absurd (cc)
elsewhere kind configs m (Leave n) answer e = absurd (cc)
elsewhere kind configs m event answer e = refl

rests_kind : (kind : PoolKind) (p : Basin) (configs : List Configuration) (h : History) (moment : ℕ) (event : Event)
    (answer : Told) → IsBasin p → PoolsStand p (pool_history kind configs (marked configs h)) → latest h ≤ moment
    → is_elsewhere event answer ≡ true
    → PoolsStand p (pool_history kind configs (marked configs (entry_at moment event answer ∷ h)))
rests_kind kind p configs h moment event answer basin stand late away =
    subst (λ (v : PoolEvent). PoolsStand p (entry moment v ∷ pool_history kind configs (marked configs h)))
    (sym (elsewhere kind configs (marked configs h) event answer away))
    (rest_stands p (pool_history kind configs (marked configs h)) moment basin stand
    (subst (λ (n : ℕ). n ≤ moment) (sym (latest_kind kind configs h)) late))

-- they stand for the history with it added
pub both_elsewhere : (p : BothPools) (configs : List Configuration) (h : History) (moment : ℕ) (event : Event)
    (answer : Told) → AreBasins p → BothStand p configs (marked configs h) → latest h ≤ moment
    → is_elsewhere event answer ≡ true
    → BothStand p configs (marked configs (entry_at moment event answer ∷ h))
both_elsewhere p configs h moment event answer basins stand late away = record {
  addressed = rests_kind Addressed p.addressed configs h moment event answer basins.addressed stand.addressed late away;
  tagged = rests_kind Tagged p.tagged configs h moment event answer basins.tagged stand.tagged late away;
}

-- seats that are in use

used_given : (h : PoolHistory) (n : ℕ) → in_use h n ≡ true → is_some (seat_of h n) ≡ true
used_given [] n e = absurd (cc)
used_given (x ∷ h) n e = by x.event (numbered n (seat_count h) (sat_at x.event)) e (used_given h n)
  where
    older : (o : Option Sat) → is_some (seat_of h n) ≡ true → is_some (option_or o (seat_of h n)) ≡ true
    older None e = e
    older (Some s) e = refl

    left : (b : Bool) (o : Option Sat) → (if b then false else in_use h n) ≡ true
        → (in_use h n ≡ true → is_some (seat_of h n) ≡ true)
        → is_some (option_or o (seat_of h n)) ≡ true
    left true o e more = absurd (cc)
    left false o e more = older o (more e)

    born : (o : Option Sat) → (is_some o || in_use h n) ≡ true
        → (in_use h n ≡ true → is_some (seat_of h n) ≡ true)
        → is_some (option_or o (seat_of h n)) ≡ true
    born None e more = more e
    born (Some s) e more = refl

    by : (event : PoolEvent) (o : Option Sat) → in_use_after n event (is_some o) (in_use h n) ≡ true
        → (in_use h n ≡ true → is_some (seat_of h n) ≡ true)
        → is_some (option_or o (seat_of h n)) ≡ true
    by (Leaves k) o e more = left (k == n) o e more
    by event o e more = born o e more

-- what is there
pub there_is : (o : Option Sat) → is_some o ≡ true → (s : Sat) × (o ≡ Some s)
there_is None e = absurd (cc)
there_is (Some s) e = (s, refl)

kept_true : (b : Bool) (o : Option Sat) (s : Sat) → kept_if b o ≡ Some s → b ≡ true
kept_true true o s e = refl
kept_true false o s e = absurd (none-some s e)

-- a seat that the pools have is in use
pub used : (p : Basin) (h : PoolHistory) (n : ℕ) → PoolsStand p h → is_some (seat_in p n) ≡ true → in_use h n ≡ true
used p h n stand there = let s = there_is (seat_in p n) there in
    kept_true (in_use h n) (seat_of h n) s.0 (sym (stand.seats_are n) ∙ s.1)

-- and one that they do not have is not
pub unused : (p : Basin) (h : PoolHistory) (n : ℕ) → PoolsStand p h → seat_in p n ≡ None → in_use h n ≡ false
unused p h n stand none = by (in_use h n) refl (sym (stand.seats_are n) ∙ none)
  where
    by : (b : Bool) → in_use h n ≡ b → kept_if b (seat_of h n) ≡ None → b ≡ false
    by true used_now e =
        let s = there_is (seat_of h n) (used_given h n used_now) in absurd (none-some s.0 (sym e ∙ s.1))
    by false used_now e = refl

-- where the other pools have it, these have not
pub none_beside : (p : BothPools) (n : ℕ) → AreBasins p → is_some (seat_in p.tagged n) ≡ true
    → seat_in p.addressed n ≡ None
none_beside p n basins there = by (seat_in p.addressed n) refl
  where
    by : (o : Option Sat) → seat_in p.addressed n ≡ o → o ≡ None
    by None is = refl
    by (Some s) is =
        let none : seat_in p.tagged n ≡ None = basins.apart n (ap is_some is) in
        let t = there_is (seat_in p.tagged n) there in
        absurd (none-some t.0 (sym none ∙ t.1))
