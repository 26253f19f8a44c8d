-- What is so of every legal history, and so of the history of every run.
use Rattle.std.proofs.Common.{◌≡◌, inl, inr, ℕ, suc, ◌≤◌, List, [], ◌∷◌, ◌++◌, Bool, true, false, if◌then◌else◌, Option, Some, None, refl, sym, subst, ◌∙◌, arith}
use Rattle.sq_base.specs.Addresses.{Address}
use Rattle.sq_base.specs.declared.helpers.Answer.{Answer}
use Rattle.sq_outside.specs.SourceLines.{SourceLine}
use Rattle.sq_machine.specs.declared.entries.Event.{Event}
use Rattle.sq_machine.specs.declared.entries.Event.TheVariants.{Begin, Grant, Leave, Reconfigure, Seat}
use Rattle.sq_machine.specs.declared.entries.Told.{Told}
use Rattle.sq_machine.specs.declared.entries.Told.TheVariants as told
use Rattle.sq_machine.specs.declared.places.SeatPlace.{SeatPlace}
use Rattle.sq_machine.specs.declared.places.SeatPlace.TheVariants.{Nowhere, ByAddress, ByTag}
use Rattle.sq_rules.specs.Configurations.{Configuration, IsConfiguration}
use Rattle.sq_machine.specs.Checks.{Asked}
use Rattle.sq_machine.specs.Entries.{History}
use Rattle.sq_machine.specs.Epochs.{config_of}
use Rattle.sq_machine.specs.Machine.{Legal, next, next_at}
use Rattle.sq_machine.specs.Events.{Judgement, is_begin, judgement}
use Rattle.sq_machine.specs.Next.{gives, nothing}
use Rattle.sq_machine.specs.Marking.{marked}
use Rattle.sq_machine.specs.Marks.{Marked, Past, entries}
use Rattle.sq_machine.specs.PoolHistories.{Addressed, PoolKind, Tagged, begins_in, pool_event, pool_history, sits_at, sits_by, sits_in}
use Rattle.sq_machine.specs.PoolReadings.{PoolEntry, PoolHistory, grant_of, in_use, is_grant, seat_of}
use Rattle.sq_machine.specs.Readings.{current, latest}
use Rattle.sq_machine.specs.SeatPlaces.{seat_place}
use Rattle.sq_machine.specs.TakenRecords.{allowed_of, taken_answers}
use Rattle.sq_model.specs.Faithful.{IsFaithful, IsJudgedSo, JudgedSo}
use Rattle.sq_model.specs.Given.{EachOf}
use Rattle.sq_model.proofs.FaithfulLaws.{legal_faithful}
use Rattle.sq_pools.specs.Flows.{AreGrants}
use Rattle.sq_pools.specs.Stands.{entry}
use Rattle.sq_pools.proofs.HistoryLaws.{books_balance, grants_within_levels}
use Rattle.sq_model.proofs.PromiseLaws.{next_now}
use Rattle.sq_replay.specs.Headline.{AreBalanced, AreWithinLevels, IsTrue, IsTrueOrNone}
use Rattle.sq_replay.specs.RunText.{Shelf, configs_of, run_script}
use Rattle.sq_replay.proofs.KindLaws.{apart_kinds}
use Rattle.sq_replay.proofs.ReadingLaws.{configs_good}
use Rattle.sq_replay.proofs.RunLaws.{OrNone}
use Rattle.sq_replay.proofs.SourceLaws.{IsSourcedRun, accepted_sourced, run_sourced}

-- each grant of a legal history is what its seat has

grants_by : (kind : PoolKind) (configs : List Configuration) (m : Past) (moment n wanted amount : ℕ) (a b : Bool)
    → in_use (pool_history Addressed configs m) n ≡ a → in_use (pool_history Tagged configs m) n ≡ b
    → (if a then gives (told.Granted (grant_of (pool_history Addressed configs m) moment wanted
    (seat_of (pool_history Addressed configs m) n)))
    else (if b then gives (told.Granted (grant_of (pool_history Tagged configs m) moment wanted
    (seat_of (pool_history Tagged configs m) n))) else nothing)) ≡ gives (told.Granted amount)
    → in_use (pool_history kind configs m) n ≡ true
    → amount ≡ grant_of (pool_history kind configs m) moment wanted (seat_of (pool_history kind configs m) n)
grants_by Addressed configs m moment n wanted amount true b used other e u =
    let is : grant_of (pool_history Addressed configs m) moment wanted (seat_of (pool_history Addressed configs m) n)
    ≡ amount = cc in sym is
grants_by Addressed configs m moment n wanted amount false b used other e u =
    absurd (let no : true ≡ false = sym u ∙ used in cc)
grants_by Tagged configs m moment n wanted amount true b used other e u =
    absurd (let no : true ≡ false = sym u ∙ apart_kinds configs m n used in cc)
grants_by Tagged configs m moment n wanted amount false true used other e u =
    let is : grant_of (pool_history Tagged configs m) moment wanted (seat_of (pool_history Tagged configs m) n)
    ≡ amount = cc in sym is
grants_by Tagged configs m moment n wanted amount false false used other e u =
    absurd (let no : true ≡ false = sym u ∙ other in cc)

begins_quiet : (x : PoolEntry) (h : PoolHistory) (kind : PoolKind) (e : ℕ) (o : Option Configuration)
    → is_grant x h (begins_in kind e o)
begins_quiet x h kind e None = tt
begins_quiet x h Addressed e (Some c) = tt
begins_quiet x h Tagged e (Some c) = tt

place_quiet : (x : PoolEntry) (h : PoolHistory) (kind : PoolKind) (e : ℕ) (c : Configuration) (a : Address)
    (place : SeatPlace) → is_grant x h (sits_at kind e c a place)
place_quiet x h kind e c a Nowhere = tt
place_quiet x h Addressed e c a (ByAddress pool) = tt
place_quiet x h Addressed e c a (ByTag pool tag) = tt
place_quiet x h Tagged e c a (ByAddress pool) = tt
place_quiet x h Tagged e c a (ByTag pool tag) = tt

record_quiet : (x : PoolEntry) (h : PoolHistory) (kind : PoolKind) (answers : List Answer) (a : Asked)
    (o : Option Configuration) → is_grant x h (sits_in kind answers a o)
record_quiet x h kind answers a None = tt
record_quiet x h kind answers a (Some c) =
    place_quiet x h kind a.epoch c a.sight.addr (seat_place c a.sight answers)

seats_quiet : (x : PoolEntry) (h : PoolHistory) (kind : PoolKind) (configs : List Configuration)
    (answers : List Answer) (o : Option Asked) → is_grant x h (sits_by kind configs answers o)
seats_quiet x h kind configs answers None = tt
seats_quiet x h kind configs answers (Some a) = record_quiet x h kind answers a (config_of configs a.epoch)

-- an amount is granted
abbrev takes_amount : Event → Told → Bool
takes_amount (Grant n wanted) (told.Granted amount) = true
takes_amount event answer = false

quiet_grants : (x : PoolEntry) (h : PoolHistory) (kind : PoolKind) (configs : List Configuration) (m : Past)
    (event : Event) (answer : Told) → takes_amount event answer ≡ false
    → is_grant x h (pool_event kind configs m event answer)
quiet_grants x h kind configs m (Begin offset) answer q = begins_quiet x h kind 1 (config_of configs 1)
quiet_grants x h kind configs m (Reconfigure text) answer q =
    begins_quiet x h kind (suc (current (entries m))) (config_of configs (suc (current (entries m))))
quiet_grants x h kind configs m (Seat c) (told.Seat n pool) q =
    seats_quiet x h kind configs (taken_answers configs m c) (allowed_of (entries m) c)
quiet_grants x h kind configs m (Seat c) answer q = tt
quiet_grants x h kind configs m (Grant n wanted) (told.Granted amount) q = absurd (cc)
quiet_grants x h kind configs m (Grant n wanted) answer q = tt
quiet_grants x h kind configs m (Leave n) answer q = tt
quiet_grants x h kind configs m event answer q = tt

begin_quiet : (event : Event) (answer : Told) → is_begin event ≡ true → takes_amount event answer ≡ false
begin_quiet (Begin offset) answer e = refl
begin_quiet event answer e = absurd (cc)

next_grants : (kind : PoolKind) (configs : List Configuration) (x : PoolEntry) (h : History) (event : Event)
    (answer : Told) → latest h ≤ x.moment → next configs (marked configs h) x.moment event ≡ gives answer
    → is_grant x (pool_history kind configs (marked configs h))
    (pool_event kind configs (marked configs h) event answer)
unfolding next_at
next_grants kind configs x h (Grant n wanted) (told.Granted amount) late said =
    grants_by kind configs (marked configs h) x.moment n wanted amount
    (in_use (pool_history Addressed configs (marked configs h)) n)
    (in_use (pool_history Tagged configs (marked configs h)) n) refl refl
    (sym (next_now configs h x.moment (Grant n wanted) late) ∙ said)
next_grants kind configs x h (Grant n wanted) answer late said = tt
next_grants kind configs x h event answer late said =
    quiet_grants x (pool_history kind configs (marked configs h)) kind configs (marked configs h) event answer refl

-- so moments never fall, and each grant is what its seat has
pub legal_grants : (kind : PoolKind) (configs : List Configuration) (h : History) → Legal configs h
    → AreGrants (pool_history kind configs (marked configs h))
legal_grants kind configs [] legal = absurd legal
legal_grants kind configs (e ∷ []) legal = (
  tt,
  omega arith,
  quiet_grants (entry e.moment (pool_event kind configs [] e.event e.answer)) [] kind configs [] e.event e.answer
      (begin_quiet e.event e.answer legal.0),
)
legal_grants kind configs (e ∷ f ∷ h) legal = (
  legal_grants kind configs (f ∷ h) legal.0,
  legal.3,
  next_grants kind configs (entry e.moment (pool_event kind configs (marked configs (f ∷ h)) e.event e.answer)) (f ∷ h)
      e.event e.answer legal.3 legal.4,
)

-- so it is before each place of it
grants_before : (after : List PoolEntry) (before : PoolHistory) → AreGrants (after ++ before) → AreGrants before
grants_before [] before g = g
grants_before (x ∷ after) before g = grants_before after before g.0

place_grants : (kind : PoolKind) (configs : List Configuration) (h : History) (after : List PoolEntry)
    (before : PoolHistory) → Legal configs h → after ++ before ≡ pool_history kind configs (marked configs h)
    → AreGrants before
place_grants kind configs h after before legal same = grants_before after before
    (subst AreGrants (sym same) (legal_grants kind configs h legal))

-- in every legal history no bucket grants more than its level and what was restored, between any two places
pub within_levels : (kind : PoolKind) (configs : List Configuration) (h : History) → Legal configs h
    → AreWithinLevels (pool_history kind configs (marked configs h))
within_levels kind configs h legal = λ after later before e s same lives.
    grants_within_levels later before e s (place_grants kind configs h after (later ++ before) legal same) lives

-- and at each place the books of each bucket balance
pub balanced : (kind : PoolKind) (configs : List Configuration) (h : History) → Legal configs h
    → AreBalanced (pool_history kind configs (marked configs h))
balanced kind configs h legal = λ after before e s b same is. books_balance before e s b
    (place_grants kind configs h after before legal same) is

-- each outcome of a faithful history is judged so
judged_in : (configs : List Configuration) (p later : Past) (x : Marked) (m : Past) (j : Judgement)
    → IsFaithful configs p → later ++ (x ∷ m) ≡ p → judgement x.entry.event x.entry.answer ≡ Some j
    → IsJudgedSo configs m j
judged_in configs p [] x m j faithful same is =
    let here : IsFaithful configs (x ∷ m) = subst (IsFaithful configs) (sym same) faithful in
    subst (JudgedSo configs m) is here.0.judged
judged_in configs p (y ∷ later) x m j faithful same is =
    let all : IsFaithful configs (y ∷ (later ++ (x ∷ m))) = subst (IsFaithful configs) (sym same) faithful in
    judged_in configs (later ++ (x ∷ m)) later x m j all.1 refl is

-- the headline holds of a legal history whose configurations are those of its texts
pub history_true : (configs : List Configuration) (h : History) → EachOf IsConfiguration configs
    → IsSourcedRun configs h → IsTrue configs h
history_true configs h good s = let faithful = legal_faithful configs h good s.reached s.legal in record {
  legal = s.legal;
  sourced = accepted_sourced configs h s.accepted;
  accepted = s.accepted;
  judged = λ later x m j. judged_in configs (marked configs h) later x m j faithful;
  faithful = faithful;
  granted = λ kind. within_levels kind configs h s.legal;
  balanced = λ kind. balanced kind configs h s.legal;
}

-- so it holds of every run that begins with a configuration
pub run_true : (files : Shelf) (config : Configuration) (ls : List SourceLine) → IsConfiguration config
    → IsTrueOrNone (configs_of files config ls) (run_script files config ls).history
run_true files config ls good = by (run_script files config ls).history (run_sourced files config ls)
  where
    by : (h : History) → OrNone (IsSourcedRun (configs_of files config ls)) h
        → IsTrueOrNone (configs_of files config ls) h
    by h (inl none) = inl none
    by h (inr s) = inr (history_true (configs_of files config ls) h (configs_good files config ls good) s)
