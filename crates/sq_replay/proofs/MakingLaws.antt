-- From what the engine and the pools do to the machine that a script runs.
use Rattle.std.proofs.Common.{◌≡◌, ℕ, ℤ, suc, ◌≤◌, ◌<◌, max, List, [], ◌∷◌, ◌++◌, Bool, true, false, ◌==◌, nat_le, if◌then◌else◌, Option, Some, None, Ok, Err, is_some, refl, sym, ap, subst, ◌∙◌, arith}
use Rattle.std.specs.Option.{option_map}
use Rattle.std.proofs.lemmas.Bool.Decides.{nat_tests}
use Rattle.std.proofs.lemmas.Option.{none-some, same_Some}
use Rattle.sq_machine.specs.declared.entries.Event.{Event}
use Rattle.sq_machine.specs.declared.entries.Event.TheVariants.{Act, Close, Grant, Leave, Reconfigure, Seat, Take}
use Rattle.sq_machine.specs.declared.entries.Told.{Told}
use Rattle.sq_machine.specs.declared.entries.Told.TheVariants as told
use Rattle.sq_rules.specs.declared.outcomes.Outcome.{Outcome}
use Rattle.sq_machine.specs.declared.refusals.Refusal.TheVariants as refusal
use Rattle.sq_base.specs.Addresses.{Address}
use Rattle.sq_base.specs.declared.helpers.Answer.{Answer}
use Rattle.sq_machine.specs.AnswerReadings.{answers}
use Rattle.sq_machine.specs.Checks.{Asked, ask_of}
use Rattle.sq_rules.specs.Configurations.{Configuration, IsConfiguration}
use Rattle.sq_machine.specs.Entries.{History, entry_at}
use Rattle.sq_machine.specs.Events.{is_number}
use Rattle.sq_machine.specs.Machine.{Legal, grant_next, leave_next, next, next_at, seat_for, seat_next}
use Rattle.sq_machine.specs.Limits.{last_number}
use Rattle.sq_machine.specs.Epochs.{config_of}
use Rattle.sq_machine.specs.Next.{Next, gives, nothing, refuse_if, refuses}
use Rattle.sq_machine.specs.Marking.{marked}
use Rattle.sq_machine.specs.Marks.{Past, entries}
use Rattle.sq_machine.specs.PoolHistories.{Addressed, PoolKind, Tagged, begins_by, begins_in, pool_event, pool_history, record_place, sits_at, sits_by, sits_in}
use Rattle.sq_machine.specs.PoolReadings.{Grants, Leaves, PoolEvent, beginning_of, current_in, grant_of, latest_in, sat_in, seat_count, seat_of, tag_beginning_of, tag_sat_in}
use Rattle.sq_machine.specs.SeatPlaces.{pool_at}
use Rattle.sq_machine.specs.TakenRecords.{allowed_of, if_allowed, taken_answers, taken_of, taking}
use Rattle.sq_machine.specs.declared.places.SeatPlace.{SeatPlace}
use Rattle.sq_machine.specs.declared.places.SeatPlace.TheVariants.{Nowhere, ByAddress, ByTag}
use Rattle.sq_machine.proofs.TakenLaws.{allowed_epoch}
use Rattle.sq_machine.specs.Readings.{current, latest}
use Rattle.sq_model.specs.Given.{EachOf}
use Rattle.sq_model.proofs.LegalLaws.{marked_entries}
use Rattle.sq_journal.specs.EntryText.{entry_line, written}
use Rattle.sq_pools.specs.Basins.{Basin, HasLeft, HasPassed, IsChosen, IsGranted, IsRenewed, IsTagChosen, IsTagRenewed, grant_in, seat_in}
use Rattle.sq_pools.specs.Stands.{PoolsStand, entry}
use Rattle.sq_pools.proofs.StandLaws.{grant_elsewhere, grant_is, grant_stands, leave_elsewhere, leave_stands, new_stands, pass_stands, renew_stands, sit_stands}
use Rattle.sq_machine.specs.DueActs.{Due}
use Rattle.sq_model.specs.Acts.{due_in}
use Rattle.sq_model.specs.Answers.{due_told}
use Rattle.sq_model.specs.Promises.{IsAnswered}
use Rattle.sq_model.specs.Changes.{first_state}
use Rattle.sq_model.specs.States.{IsSame, State}
use Rattle.sq_model.proofs.ActPromises.{none_due}
use Rattle.sq_model.proofs.Lawful.{stands_same}
use Rattle.sq_model.proofs.PromiseLaws.{answered_same, first_for, grant_answered, leave_answered, next_now, seat_answered}
use Rattle.sq_replay.specs.declared.ends.RunEnd.TheVariants as ends
use Rattle.sq_engine.specs.Acting.{after_due}
use Rattle.sq_replay.specs.Making.{is_refused}
use Rattle.sq_replay.specs.Riding.{AreBasins, HaveBegun}
use Rattle.sq_replay.specs.RunText.{acts, answered, asked_next, first_history}
use Rattle.sq_replay.specs.Runs.{At, BothPools, BothStand, Is, IsMade, IsRider, ScriptView, Reached, Rider, Rides, Wrote}
use Rattle.sq_replay.proofs.ActLaws.{acts_none, acts_some, due_answered}
use Rattle.sq_replay.proofs.PairLaws.{both_elsewhere, current_kind, is_elsewhere, latest_kind, none_beside, unused, used}

-- the acts, one by one

-- before the acts
pub reached_first : (v : ScriptView) (base contents : Option (List ℕ)) (page : List ℕ) (configs : List Configuration)
    (h : History) → At v base contents page configs h → Reached v base contents page configs h
reached_first v base contents page configs h at = record { history = h; same = refl; at = at }

-- an act was made, and its line was written
pub reached_next : (v w : ScriptView) (base before contents : Option (List ℕ)) (old_page page : List ℕ)
    (configs : List Configuration) (h : History) (answer : Told)
    → ((g : History) → Is v configs g → IsMade w configs g v.latest Act answer)
    → ((text : List ℕ) → Wrote base before old_page text
    → Wrote base contents page (text ++ entry_line (entry_at v.latest Act answer)))
    → Reached v base before old_page configs h → Reached w base contents page configs h
reached_next v w base before contents old_page page configs h answer made wrote r =
    let m = made r.history r.at.is in
    let is = r.at.is.latest_is in
    let said : next configs (marked configs r.history) (latest r.history) Act ≡ gives answer =
    subst (λ (n : ℕ). next configs (marked configs r.history) n Act ≡ gives answer) is m.next_is in
    let more : acts configs r.history ≡ acts configs (entry_at v.latest Act answer ∷ r.history) =
    acts_some configs r.history answer r.at.is.engine.good r.at.is.engine.legal said
    ∙ ap (λ (n : ℕ). acts configs (entry_at n Act answer ∷ r.history)) (sym is) in
    record {
      history = entry_at v.latest Act answer ∷ r.history;
      same = sym more ∙ r.same;
      at = record { is = m.is; wrote = wrote (written r.history) r.at.wrote };
    }

-- none is due any more
pub reached_last : (v : ScriptView) (base contents : Option (List ℕ)) (page : List ℕ) (configs : List Configuration)
    (h : History) → due_in v.state ≡ None → Reached v base contents page configs h
    → At v base contents page configs (acts configs h)
reached_last v base contents page configs h none r =
    let last : acts configs r.history ≡ r.history =
    acts_none configs r.history
    (none_due configs r.history v.state (latest r.history) r.at.is.engine (omega arith) none) in
    subst (At v base contents page configs) (sym last ∙ r.same) r.at

-- from the machine's answer to the step of a line

-- an answer is entered
pub made_asks : (v w : ScriptView) (configs : List Configuration) (h : History) (number now : ℕ) (event : Event)
    (answer : Told) → Is v configs h → IsMade w configs h (max now v.latest) event answer
    → asked_next configs h number now event ≡ Ok (acts configs (entry_at (max now v.latest) event answer ∷ h))
made_asks v w configs h number now event answer is m =
    ap (λ (n : ℕ). answered configs h number (max now n) event (next configs (marked configs h) (max now n) event))
    (sym is.latest_is)
    ∙ ap (answered configs h number (max now v.latest) event) m.next_is

refused_ends : (configs : List Configuration) (h : History) (number moment : ℕ) (event : Event) (n : Next)
    → is_refused n ≡ true → answered configs h number moment event n ≡ Err (ends.Script number)
refused_ends configs h number moment event (gives answer) e = absurd (cc)
refused_ends configs h number moment event (refuses r) e = refl
refused_ends configs h number moment event nothing e = refl

-- a refusal ends the run at the line
pub refused_asks : (v : ScriptView) (configs : List Configuration) (h : History) (number now : ℕ) (event : Event)
    → Is v configs h
    → is_refused (next configs (marked configs h) (max now v.latest) event) ≡ true
    → asked_next configs h number now event ≡ Err (ends.Script number)
refused_asks v configs h number now event is e =
    ap (λ (n : ℕ). answered configs h number (max now n) event (next configs (marked configs h) (max now n) event))
    (sym is.latest_is)
    ∙ refused_ends configs h number (max now v.latest) event
    (next configs (marked configs h) (max now v.latest) event) e

-- events of which the pools are not told

-- the event takes no outcome and closes no connection
abbrev pub keeps_riders : Event → Bool
keeps_riders (Take n) = false
keeps_riders (Close c) = false
keeps_riders event = true

riders_same : (h : History) (moment c : ℕ) (event : Event) (answer : Told) → keeps_riders event ≡ true
    → allowed_of (entry_at moment event answer ∷ h) c ≡ allowed_of h c
riders_same h moment c (Take n) answer e = absurd (cc)
riders_same h moment c (Close d) answer e = absurd (cc)
riders_same h moment c event answer e = refl

answers_same : (configs : List Configuration) (h : History) (moment c : ℕ) (event : Event) (answer : Told)
    → keeps_riders event ≡ true
    → taken_answers configs (marked configs (entry_at moment event answer ∷ h)) c
    ≡ taken_answers configs (marked configs h) c
answers_same configs h moment c (Take n) answer e = absurd (cc)
answers_same configs h moment c (Close d) answer e = absurd (cc)
answers_same configs h moment c event answer e = refl

-- the records that were taken stay
pub riders_kept : (v : ScriptView) (configs : List Configuration) (h : History) (moment : ℕ) (event : Event)
    (answer : Told) → Is v configs h → keeps_riders event ≡ true
    → (c : ℕ) → Rides configs (allowed_of (entry_at moment event answer ∷ h) c)
    (taken_answers configs (marked configs (entry_at moment event answer ∷ h)) c) (v.riders c)
riders_kept v configs h moment event answer is e c =
    subst (λ (o : Option Asked). Rides configs o
    (taken_answers configs (marked configs (entry_at moment event answer ∷ h)) c) (v.riders c))
    (sym (riders_same h moment c event answer e))
    (subst (λ (l : List Answer). Rides configs (allowed_of h c) l (v.riders c))
    (sym (answers_same configs h moment c event answer e)) (is.riders_are c))

-- the engine made the act that was due
pub act_made : (v : ScriptView) (configs : List Configuration) (h : History) (moment : ℕ) (d : Due) (t : State)
    → Is v configs h → AreBasins v.pools → v.latest ≤ moment → due_in v.state ≡ Some d
    → IsSame t (after_due d moment v.state)
    → IsMade (record v { state = t; latest = moment }) configs h moment Act (due_told v.state d)
act_made v configs h moment d t is basin late due same =
    let after : latest h ≤ moment = subst (λ (n : ℕ). n ≤ moment) is.latest_is late in
    let a = answered_same configs h (after_due d moment v.state) t moment Act (due_told v.state d) same
    (due_answered configs h v.state moment d is.engine after due) in
    record {
      next_is = a.next_is;
      is = record {
        engine = a.stands;
        pools = both_elsewhere v.pools configs h moment Act (due_told v.state d) basin is.pools after refl;
        latest_is = refl;
        riders_are = riders_kept v configs h moment Act (due_told v.state d) is refl;
      };
    }

-- an outcome was taken: where it allows, the record is that of its connection from here on
pub riders_taken : (v : ScriptView) (configs : List Configuration) (h : History) (moment n epoch : ℕ) (o : Outcome)
    (a : Asked) (r : Rider) → Is v configs h → ask_of h n ≡ Some a
    → (o.allow ≡ true → IsRider configs a (answers configs (marked configs h) n) r)
    → (c : ℕ) → Rides configs (allowed_of (entry_at moment (Take n) (told.Judged epoch o) ∷ h) c)
    (taken_answers configs (marked configs (entry_at moment (Take n) (told.Judged epoch o) ∷ h)) c)
    (if c == a.conn then (if o.allow then Some r else None) else v.riders c)
riders_taken v configs h moment n epoch o a r is asked ride c =
    subst (λ (x : Option Asked). Rides configs
    (if_allowed (if is_number c (option_map (λ z. z.conn) x) then taking (told.Judged epoch o) x else taken_of h c))
    (if is_number c (option_map (λ z. z.conn) (ask_of (entries m) n)) then answers configs m n
    else taken_answers configs m c) riders) (sym asked)
    (subst (λ (x : Option Asked). Rides configs
    (if_allowed (if c == a.conn then Some (record { asked = a; allows = o.allow }) else taken_of h c))
    (if is_number c (option_map (λ z. z.conn) x) then answers configs m n else taken_answers configs m c) riders)
    (sym (ap (λ (g : History). ask_of g n) (marked_entries configs h) ∙ asked)) (by (c == a.conn)))
  where
    m : Past
    m = marked configs h

    riders : Option Rider
    riders = if c == a.conn then (if o.allow then Some r else None) else v.riders c

    allows : (b : Bool) → (b ≡ true → IsRider configs a (answers configs m n) r)
        → Rides configs (if b then Some a else None) (answers configs m n) (if b then Some r else None)
    allows true ride = ride refl
    allows false ride = tt

    by : (b : Bool) → Rides configs
        (if_allowed (if b then Some (record { asked = a; allows = o.allow }) else taken_of h c))
        (if b then answers configs m n else taken_answers configs m c)
        (if b then (if o.allow then Some r else None) else v.riders c)
    by true = allows o.allow ride
    by false = is.riders_are c

-- a connection was closed
pub riders_closed : (v : ScriptView) (configs : List Configuration) (h : History) (moment d : ℕ) (answer : Told)
    → Is v configs h
    → (c : ℕ) → Rides configs (allowed_of (entry_at moment (Close d) answer ∷ h) c)
    (taken_answers configs (marked configs (entry_at moment (Close d) answer ∷ h)) c)
    (if d == c then None else v.riders c)
riders_closed v configs h moment d answer is c = by (d == c)
  where
    by : (b : Bool) → Rides configs (if_allowed (if b then None else taken_of h c))
        (taken_answers configs (marked configs h) c) (if b then None else v.riders c)
    by true = tt
    by false = is.riders_are c

-- the machine as it begins

begun_kind : (kind : PoolKind) (configs : List Configuration) (config : Configuration) (offset : ℤ) (now : ℕ)
    → config_of configs 1 ≡ Some config
    → pool_history kind configs (marked configs (first_history now offset))
    ≡ entry now (begins_by kind 1 config) ∷ []
begun_kind kind configs config offset now at = ap (λ (o : Option Configuration). entry now (begins_in kind 1 o) ∷ []) at

-- pools as they begin
pub both_begun : (configs : List Configuration) (config : Configuration) (offset : ℤ) (now : ℕ) (p : BothPools)
    → config_of configs 1 ≡ Some config → HaveBegun p 1 config now
    → BothStand p configs (marked configs (first_history now offset))
both_begun configs config offset now p at begun = record {
  addressed = subst (PoolsStand p.addressed) (sym (begun_kind Addressed configs config offset now at))
      (new_stands p.addressed now (beginning_of config) begun.addressed);
  tagged = subst (PoolsStand p.tagged) (sym (begun_kind Tagged configs config offset now at))
      (new_stands p.tagged now (tag_beginning_of config) begun.tagged);
}

pub begun_is : (configs : List Configuration) (config : Configuration) (offset : ℤ) (now : ℕ) (p : BothPools)
    → EachOf IsConfiguration configs → config_of configs 1 ≡ Some config → HaveBegun p 1 config now
    → Is (record { state = first_state config offset now; pools = p; latest = now; riders = λ c. None }) configs
    (first_history now offset)
begun_is configs config offset now p good at begun = record {
  engine = first_for configs config offset now good at;
  pools = both_begun configs config offset now p at begun;
  latest_is = refl;
  riders_are = λ c. tt;
}

-- a state that is the same does as well
pub same_is : (v : ScriptView) (t : State) (configs : List Configuration) (h : History) → IsSame t v.state
    → Is v configs h → Is (record v { state = t }) configs h
same_is v t configs h same is = record {
  engine = record {
    good = is.engine.good;
    legal = is.engine.legal;
    sourced = is.engine.sourced;
    stands = stands_same configs (marked configs h) v.state t same is.engine.stands;
  };
  pools = is.pools;
  latest_is = is.latest_is;
  riders_are = is.riders_are;
}

-- the engine made the event
pub elsewhere_made : (v : ScriptView) (configs : List Configuration) (h : History) (moment : ℕ) (event : Event)
    (answer : Told) (t : State) (riders : ℕ → Option Rider) → Is v configs h → AreBasins v.pools
    → v.latest ≤ moment → IsAnswered configs h moment event answer t → is_elsewhere event answer ≡ true
    → ((c : ℕ) → Rides configs (allowed_of (entry_at moment event answer ∷ h) c)
    (taken_answers configs (marked configs (entry_at moment event answer ∷ h)) c) (riders c))
    → IsMade (record { state = t; pools = v.pools; latest = moment; riders = riders }) configs h moment event answer
elsewhere_made v configs h moment event answer t riders is basin late a other ride = record {
  next_is = a.next_is;
  is = record {
    engine = a.stands;
    pools = both_elsewhere v.pools configs h moment event answer basin is.pools
        (subst (λ (n : ℕ). n ≤ moment) is.latest_is late) other;
    latest_is = refl;
    riders_are = ride;
  };
}

begins_kind : (kind : PoolKind) (configs : List Configuration) (h : History) (text : List ℕ) (answer : Told)
    (config : Configuration) → config_of configs (suc (current h)) ≡ Some config
    → pool_event kind configs (marked configs h) (Reconfigure text) answer ≡ begins_by kind (suc (current h)) config
begins_kind kind configs h text answer config at =
    ap (λ (g : History). begins_in kind (suc (current g)) (config_of configs (suc (current g))))
    (marked_entries configs h)
    ∙ ap (begins_in kind (suc (current h))) at

next_epoch : (kind : PoolKind) (configs : List Configuration) (h : History) → Legal configs h
    → suc (current h) ≡ suc (current_in (pool_history kind configs (marked configs h)))
next_epoch kind configs h legal = ap suc (sym (current_kind kind configs h legal))

pub late_kind : (kind : PoolKind) (configs : List Configuration) (h : History) (moment : ℕ) → latest h ≤ moment
    → latest_in (pool_history kind configs (marked configs h)) ≤ moment
late_kind kind configs h moment late = subst (λ (n : ℕ). n ≤ moment) (sym (latest_kind kind configs h)) late

-- the engine reconfigured, and the pools were renewed
pub renewed_made : (v : ScriptView) (configs : List Configuration) (h : History) (moment : ℕ) (text : List ℕ)
    (config : Configuration) (t : State) (q : BothPools) → Is v configs h → AreBasins v.pools
    → v.latest ≤ moment → config_of configs (suc (current h)) ≡ Some config
    → IsAnswered configs h moment (Reconfigure text) (told.Epoch (suc (current h))) t
    → IsRenewed v.pools.addressed q.addressed (suc (current h)) config moment
    → IsTagRenewed v.pools.tagged q.tagged (suc (current h)) config moment
    → IsMade (record { state = t; pools = q; latest = moment; riders = v.riders }) configs h moment (Reconfigure text)
    (told.Epoch (suc (current h)))
renewed_made v configs h moment text config t q is basin late at a renewed tags = record {
  next_is = a.next_is;
  is = record {
    engine = a.stands;
    pools = record {
      addressed = subst (λ (e : PoolEvent). PoolsStand q.addressed (entry moment e ∷ pool_history Addressed configs m))
          (sym (begins_kind Addressed configs h text (told.Epoch (suc (current h))) config at))
          (renew_stands v.pools.addressed q.addressed (pool_history Addressed configs m) moment (suc (current h))
          (beginning_of config) basin.addressed is.pools.addressed (late_kind Addressed configs h moment early)
          (next_epoch Addressed configs h is.engine.legal) renewed);
      tagged = subst (λ (e : PoolEvent). PoolsStand q.tagged (entry moment e ∷ pool_history Tagged configs m))
          (sym (begins_kind Tagged configs h text (told.Epoch (suc (current h))) config at))
          (renew_stands v.pools.tagged q.tagged (pool_history Tagged configs m) moment (suc (current h))
          (tag_beginning_of config) basin.tagged is.pools.tagged (late_kind Tagged configs h moment early)
          (next_epoch Tagged configs h is.engine.legal) tags);
    };
    latest_is = refl;
    riders_are = riders_kept v configs h moment (Reconfigure text) (told.Epoch (suc (current h))) is refl;
  };
} where
  m : Past
  m = marked configs h

  early : latest h ≤ moment
  early = subst (λ (n : ℕ). n ≤ moment) is.latest_is late

-- seats

-- the check of a record that allows
record IsRidden (configs : List Configuration) (h : History) (c : ℕ) (r : Rider) : Type 0 where
  pub asked : Asked
  pub allowed : allowed_of h c ≡ Some asked
  pub rides : IsRider configs asked (taken_answers configs (marked configs h) c) r

ridden : (configs : List Configuration) (h : History) (c : ℕ) (o : Option Asked) (s : Option Rider) (r : Rider)
    → allowed_of h c ≡ o → s ≡ Some r → Rides configs o (taken_answers configs (marked configs h) c) s
    → IsRidden configs h c r
ridden configs h c None None r is e ride = absurd (none-some r e)
ridden configs h c None (Some z) r is e ride = absurd ride
ridden configs h c (Some a) None r is e ride = absurd ride
ridden configs h c (Some a) (Some z) r is e ride = record {
  asked = a;
  allowed = is;
  rides = subst (IsRider configs a (taken_answers configs (marked configs h) c)) (same_Some _ _ e) ride;
}

-- how many numbers were given to seats
abbrev pub given_in : List Configuration → History → ℕ
given_in configs h = seat_count (pool_history Addressed configs (marked configs h))

place_is : (configs : List Configuration) (h : History) (c : ℕ) (r : Rider) (x : IsRidden configs h c r)
    → record_place (taken_answers configs (marked configs h) c) x.asked (config_of configs x.asked.epoch) ≡ r.place
place_is configs h c r x =
    ap (record_place (taken_answers configs (marked configs h) c) x.asked) x.rides.config_is ∙ sym x.rides.place_is

-- what is answered to a seat of a record
seat_asks : (configs : List Configuration) (h : History) (moment c : ℕ) (r : Rider) → IsRidden configs h c r
    → next_at configs (marked configs h) moment (Seat c) ≡ seat_next (given_in configs h) (pool_at r.place)
unfolding next_at
seat_asks configs h moment c r x =
    let l = taken_answers configs (marked configs h) c in
    ap (λ (g : History). seat_for configs (given_in configs h) l (allowed_of g c)) (marked_entries configs h)
    ∙ ap (seat_for configs (given_in configs h) l) x.allowed
    ∙ ap (λ (p : SeatPlace). seat_next (given_in configs h) (pool_at p)) (place_is configs h c r x)

-- what a seat of a record says to pools
seat_says : (kind : PoolKind) (configs : List Configuration) (h : History) (c n pool : ℕ) (r : Rider)
    → IsRidden configs h c r
    → pool_event kind configs (marked configs h) (Seat c) (told.Seat n pool)
    ≡ sits_at kind r.epoch r.config r.addr r.place
seat_says kind configs h c n pool r x =
    let l = taken_answers configs (marked configs h) c in
    ap (λ (g : History). sits_by kind configs l (allowed_of g c)) (marked_entries configs h)
    ∙ ap (sits_by kind configs l) x.allowed
    ∙ ap (sits_in kind l x.asked) x.rides.config_is
    ∙ ap (λ (p : SeatPlace). sits_at kind x.asked.epoch r.config x.asked.sight.addr p) (sym x.rides.place_is)
    ∙ ap (λ (e : ℕ). sits_at kind e r.config x.asked.sight.addr r.place) (sym x.rides.epoch_is)
    ∙ ap (λ (a : Address). sits_at kind r.epoch r.config a r.place) (sym x.rides.addr_is)

-- a record that is seated nowhere has no seat
pub unseated_made : (v : ScriptView) (configs : List Configuration) (h : History) (moment c : ℕ) (r : Rider)
    → Is v configs h → AreBasins v.pools → v.latest ≤ moment → v.riders c ≡ Some r → r.place ≡ Nowhere
    → IsMade (record v { latest = moment }) configs h moment (Seat c) told.NoSeat
unseated_made v configs h moment c r is basin late rides none =
    let late : latest h ≤ moment = subst (λ (n : ℕ). n ≤ moment) is.latest_is late in
    let x = ridden configs h c (allowed_of h c) (v.riders c) r refl rides (is.riders_are c) in
    let said : next_at configs (marked configs h) moment (Seat c) ≡ gives told.NoSeat = seat_asks configs h moment c r x
    ∙ ap (λ (p : SeatPlace). seat_next (given_in configs h) (pool_at p)) none in
    let a = seat_answered configs h v.state moment c told.NoSeat is.engine late said in
    record {
      next_is = a.next_is;
      is = record {
        engine = a.stands;
        pools = both_elsewhere v.pools configs h moment (Seat c) told.NoSeat basin is.pools late refl;
        latest_is = refl;
        riders_are = riders_kept v configs h moment (Seat c) told.NoSeat is refl;
      };
    }

not_last : (n : ℕ) → suc n < last_number → nat_le last_number (suc n) ≡ false
not_last n l = grind (arith, nat_tests)

-- the next number is told
seat_told : (v : ScriptView) (configs : List Configuration) (h : History) (moment c pool : ℕ) (r : Rider)
    → Is v configs h → IsRidden configs h c r → pool_at r.place ≡ Some pool → suc v.pools.addressed.given < last_number
    → next_at configs (marked configs h) moment (Seat c) ≡ gives (told.Seat (suc v.pools.addressed.given) pool)
seat_told v configs h moment c pool r is x has few =
    let g = v.pools.addressed.given in
    seat_asks configs h moment c r x ∙ ap (seat_next (given_in configs h)) has
    ∙ ap (λ (n : ℕ). refuse_if (nat_le last_number (suc n)) (refusal.Spent (suc n)) (gives (told.Seat (suc n) pool)))
    (sym is.pools.addressed.given_is)
    ∙ ap (λ (b : Bool). refuse_if b (refusal.Spent (suc g)) (gives (told.Seat (suc g) pool))) (not_last g few)

-- its epoch has begun
ridden_epoch : (kind : PoolKind) (configs : List Configuration) (h : History) (c : ℕ) (r : Rider) → Legal configs h
    → IsRidden configs h c r → r.epoch ≤ current_in (pool_history kind configs (marked configs h))
ridden_epoch kind configs h c r legal x =
    let low = allowed_epoch h c x.asked x.allowed in
    let own = x.rides.epoch_is in
    let same = current_kind kind configs h legal in
    omega arith

-- one that is seated by its address
pub seated_made : (v : ScriptView) (configs : List Configuration) (h : History) (moment c pool : ℕ) (r : Rider)
    (q : BothPools) → Is v configs h → AreBasins v.pools → v.latest ≤ moment → v.riders c ≡ Some r
    → r.place ≡ ByAddress pool → suc v.pools.addressed.given < last_number
    → IsChosen v.pools.addressed q.addressed r.epoch r.config pool r.addr moment
    → HasPassed v.pools.tagged q.tagged
    → IsMade (record v { pools = q; latest = moment }) configs h moment (Seat c)
    (told.Seat (suc v.pools.addressed.given) pool)
seated_made v configs h moment c pool r q is basin late rides has few chosen passed =
    let late : latest h ≤ moment = subst (λ (n : ℕ). n ≤ moment) is.latest_is late in
    let m = marked configs h in
    let x = ridden configs h c (allowed_of h c) (v.riders c) r refl rides (is.riders_are c) in
    let answer = told.Seat (suc v.pools.addressed.given) pool in
    let said = seat_told v configs h moment c pool r is x (ap pool_at has) few in
    let a = seat_answered configs h v.state moment c answer is.engine late said in
    let even : v.pools.tagged.given ≡ v.pools.addressed.given = basin.even in
    let says : (kind : PoolKind) → pool_event kind configs m (Seat c) answer
    ≡ sits_at kind r.epoch r.config r.addr (ByAddress pool) =
    λ kind. seat_says kind configs h c (suc v.pools.addressed.given) pool r x
    ∙ ap (sits_at kind r.epoch r.config r.addr) has in
    record {
      next_is = a.next_is;
      is = record {
        engine = a.stands;
        pools = record {
          addressed = subst (λ (e : PoolEvent). PoolsStand q.addressed
              (entry moment e ∷ pool_history Addressed configs m)) (sym (says Addressed))
              (sit_stands v.pools.addressed q.addressed (pool_history Addressed configs m) moment
              (sat_in r.epoch r.config pool r.addr) (beginning_of r.config) basin.addressed is.pools.addressed
              (late_kind Addressed configs h moment late) (ridden_epoch Addressed configs h c r is.engine.legal x)
              chosen);
          tagged = subst (λ (e : PoolEvent). PoolsStand q.tagged (entry moment e ∷ pool_history Tagged configs m))
              (sym (says Tagged))
              (pass_stands v.pools.tagged q.tagged (pool_history Tagged configs m) moment basin.tagged (omega arith)
              is.pools.tagged (late_kind Tagged configs h moment late) passed);
        };
        latest_is = refl;
        riders_are = riders_kept v configs h moment (Seat c) answer is refl;
      };
    }

-- one that is seated by its tag
pub tagged_made : (v : ScriptView) (configs : List Configuration) (h : History) (moment c pool : ℕ) (tag : List ℕ)
    (r : Rider) (q : BothPools) → Is v configs h → AreBasins v.pools → v.latest ≤ moment → v.riders c ≡ Some r
    → r.place ≡ ByTag pool tag → suc v.pools.addressed.given < last_number
    → IsTagChosen v.pools.tagged q.tagged r.epoch r.config pool tag moment
    → HasPassed v.pools.addressed q.addressed
    → IsMade (record v { pools = q; latest = moment }) configs h moment (Seat c)
    (told.Seat (suc v.pools.addressed.given) pool)
tagged_made v configs h moment c pool tag r q is basin late rides has few chosen passed =
    let late : latest h ≤ moment = subst (λ (n : ℕ). n ≤ moment) is.latest_is late in
    let m = marked configs h in
    let x = ridden configs h c (allowed_of h c) (v.riders c) r refl rides (is.riders_are c) in
    let answer = told.Seat (suc v.pools.addressed.given) pool in
    let said = seat_told v configs h moment c pool r is x (ap pool_at has) few in
    let a = seat_answered configs h v.state moment c answer is.engine late said in
    let says : (kind : PoolKind) → pool_event kind configs m (Seat c) answer
    ≡ sits_at kind r.epoch r.config r.addr (ByTag pool tag) =
    λ kind. seat_says kind configs h c (suc v.pools.addressed.given) pool r x
    ∙ ap (sits_at kind r.epoch r.config r.addr) has in
    record {
      next_is = a.next_is;
      is = record {
        engine = a.stands;
        pools = record {
          addressed = subst (λ (e : PoolEvent). PoolsStand q.addressed
              (entry moment e ∷ pool_history Addressed configs m)) (sym (says Addressed))
              (pass_stands v.pools.addressed q.addressed (pool_history Addressed configs m) moment basin.addressed few
              is.pools.addressed (late_kind Addressed configs h moment late) passed);
          tagged = subst (λ (e : PoolEvent). PoolsStand q.tagged (entry moment e ∷ pool_history Tagged configs m))
              (sym (says Tagged))
              (sit_stands v.pools.tagged q.tagged (pool_history Tagged configs m) moment
              (tag_sat_in r.epoch r.config pool tag) (tag_beginning_of r.config) basin.tagged is.pools.tagged
              (late_kind Tagged configs h moment late) (ridden_epoch Tagged configs h c r is.engine.legal x) chosen);
        };
        latest_is = refl;
        riders_are = riders_kept v configs h moment (Seat c) answer is refl;
      };
    }

is_last : (n : ℕ) → suc n ≡ last_number → nat_le last_number (suc n) ≡ true
is_last n e = grind (arith, nat_tests)

-- where no number is left, none is seated
pub seat_spent : (v : ScriptView) (configs : List Configuration) (h : History) (moment c pool : ℕ) (r : Rider)
    → Is v configs h → v.latest ≤ moment → v.riders c ≡ Some r → pool_at r.place ≡ Some pool
    → suc v.pools.addressed.given ≡ last_number
    → is_refused (next configs (marked configs h) moment (Seat c)) ≡ true
seat_spent v configs h moment c pool r is late rides has spent =
    let late : latest h ≤ moment = subst (λ (n : ℕ). n ≤ moment) is.latest_is late in
    let x = ridden configs h c (allowed_of h c) (v.riders c) r refl rides (is.riders_are c) in
    let g = v.pools.addressed.given in
    ap is_refused (next_now configs h moment (Seat c) late ∙ seat_asks configs h moment c r x
    ∙ ap (seat_next (given_in configs h)) has)
    ∙ ap (λ (n : ℕ). is_refused
    (refuse_if (nat_le last_number (suc n)) (refusal.Spent (suc n)) (gives (told.Seat (suc n) pool))))
    (sym is.pools.addressed.given_is)
    ∙ ap (λ (b : Bool). is_refused (refuse_if b (refusal.Spent (suc g)) (gives (told.Seat (suc g) pool))))
    (is_last g spent)

-- a connection without such a record has no seat to give
pub unridden : (v : ScriptView) (configs : List Configuration) (h : History) (moment c : ℕ) → Is v configs h
    → v.latest ≤ moment → v.riders c ≡ None
    → next configs (marked configs h) moment (Seat c) ≡ nothing
unfolding next_at
unridden v configs h moment c is late none =
    let l = taken_answers configs (marked configs h) c in
    next_now configs h moment (Seat c) (subst (λ (n : ℕ). n ≤ moment) is.latest_is late)
    ∙ ap (λ (g : History). seat_for configs (given_in configs h) l (allowed_of g c)) (marked_entries configs h)
    ∙ ap (seat_for configs (given_in configs h) l) (nobody (allowed_of h c) l (v.riders c) none (is.riders_are c))
  where
    nobody : (o : Option Asked) (l : List Answer) (s : Option Rider) → s ≡ None → Rides configs o l s → o ≡ None
    nobody None l s e ride = refl
    nobody (Some a) l None e ride = absurd ride
    nobody (Some a) l (Some r) e ride = absurd (none-some r (sym e))

-- grants

-- a seat with buckets by addresses is granted
pub granted_made : (v : ScriptView) (configs : List Configuration) (h : History) (moment n wanted amount : ℕ)
    (q : BothPools) → Is v configs h → AreBasins v.pools → v.latest ≤ moment
    → is_some (seat_in v.pools.addressed n) ≡ true
    → amount ≡ grant_in v.pools.addressed moment wanted (seat_in v.pools.addressed n)
    → IsGranted v.pools.addressed q.addressed moment amount (seat_in v.pools.addressed n)
    → q.tagged ≡ v.pools.tagged
    → IsMade (record v { pools = q; latest = moment }) configs h moment (Grant n wanted) (told.Granted amount)
unfolding next_at
granted_made v configs h moment n wanted amount q is basin late there amount_is granted same =
    let late : latest h ≤ moment = subst (λ (k : ℕ). k ≤ moment) is.latest_is late in
    let m = marked configs h in
    let p = pool_history Addressed configs m in
    let t = pool_history Tagged configs m in
    let early = late_kind Addressed configs h moment late in
    let now = used v.pools.addressed p n is.pools.addressed there in
    let none = unused v.pools.tagged t n is.pools.tagged (basin.apart n there) in
    let said : next_at configs m moment (Grant n wanted) ≡ gives (told.Granted amount) =
    ap (λ (b : Bool). if b then gives (told.Granted (grant_of p moment wanted (seat_of p n)))
    else grant_next t moment n wanted nothing) now
    ∙ ap (λ (k : ℕ). gives (told.Granted k))
    (sym (grant_is v.pools.addressed p moment n wanted basin.addressed is.pools.addressed early now)
    ∙ sym amount_is) in
    let a = grant_answered configs h v.state moment n wanted (told.Granted amount) is.engine late said in
    record {
      next_is = a.next_is;
      is = record {
        engine = a.stands;
        pools = record {
          addressed = grant_stands v.pools.addressed q.addressed p moment n wanted amount basin.addressed
              is.pools.addressed early now granted;
          tagged = subst (λ (k : Basin). PoolsStand k (entry moment (Grants n wanted amount) ∷ t)) (sym same)
              (grant_elsewhere v.pools.tagged t moment n wanted amount basin.tagged is.pools.tagged
              (late_kind Tagged configs h moment late) none);
        };
        latest_is = refl;
        riders_are = riders_kept v configs h moment (Grant n wanted) (told.Granted amount) is refl;
      };
    }

-- one with buckets by tags is granted
pub tag_granted_made : (v : ScriptView) (configs : List Configuration) (h : History) (moment n wanted amount : ℕ)
    (q : BothPools) → Is v configs h → AreBasins v.pools → v.latest ≤ moment
    → is_some (seat_in v.pools.tagged n) ≡ true
    → amount ≡ grant_in v.pools.tagged moment wanted (seat_in v.pools.tagged n)
    → IsGranted v.pools.tagged q.tagged moment amount (seat_in v.pools.tagged n)
    → q.addressed ≡ v.pools.addressed
    → IsMade (record v { pools = q; latest = moment }) configs h moment (Grant n wanted) (told.Granted amount)
unfolding next_at
tag_granted_made v configs h moment n wanted amount q is basin late there amount_is granted same =
    let late : latest h ≤ moment = subst (λ (k : ℕ). k ≤ moment) is.latest_is late in
    let m = marked configs h in
    let p = pool_history Addressed configs m in
    let t = pool_history Tagged configs m in
    let early = late_kind Tagged configs h moment late in
    let now = used v.pools.tagged t n is.pools.tagged there in
    let none = unused v.pools.addressed p n is.pools.addressed (none_beside v.pools n basin there) in
    let said : next_at configs m moment (Grant n wanted) ≡ gives (told.Granted amount) =
    ap (λ (b : Bool). if b then gives (told.Granted (grant_of p moment wanted (seat_of p n)))
    else grant_next t moment n wanted nothing) none
    ∙ ap (λ (b : Bool). if b then gives (told.Granted (grant_of t moment wanted (seat_of t n))) else nothing) now
    ∙ ap (λ (k : ℕ). gives (told.Granted k))
    (sym (grant_is v.pools.tagged t moment n wanted basin.tagged is.pools.tagged early now) ∙ sym amount_is) in
    let a = grant_answered configs h v.state moment n wanted (told.Granted amount) is.engine late said in
    record {
      next_is = a.next_is;
      is = record {
        engine = a.stands;
        pools = record {
          addressed = subst (λ (k : Basin). PoolsStand k (entry moment (Grants n wanted amount) ∷ p)) (sym same)
              (grant_elsewhere v.pools.addressed p moment n wanted amount basin.addressed is.pools.addressed
              (late_kind Addressed configs h moment late) none);
          tagged = grant_stands v.pools.tagged q.tagged t moment n wanted amount basin.tagged is.pools.tagged early now
              granted;
        };
        latest_is = refl;
        riders_are = riders_kept v configs h moment (Grant n wanted) (told.Granted amount) is refl;
      };
    }

-- a seat with buckets by addresses is left
pub left_made : (v : ScriptView) (configs : List Configuration) (h : History) (moment n : ℕ) (q : BothPools)
    → Is v configs h → AreBasins v.pools → v.latest ≤ moment
    → is_some (seat_in v.pools.addressed n) ≡ true → HasLeft v.pools.addressed q.addressed n
    → q.tagged ≡ v.pools.tagged
    → IsMade (record v { pools = q; latest = moment }) configs h moment (Leave n) told.Fine
unfolding next_at
left_made v configs h moment n q is basin late there gone same =
    let late : latest h ≤ moment = subst (λ (k : ℕ). k ≤ moment) is.latest_is late in
    let m = marked configs h in
    let p = pool_history Addressed configs m in
    let t = pool_history Tagged configs m in
    let said : next_at configs m moment (Leave n) ≡ gives told.Fine =
    ap (λ (b : Bool). if b then gives told.Fine else leave_next t n nothing)
    (used v.pools.addressed p n is.pools.addressed there) in
    let a = leave_answered configs h v.state moment n told.Fine is.engine late said in
    record {
      next_is = a.next_is;
      is = record {
        engine = a.stands;
        pools = record {
          addressed = leave_stands v.pools.addressed q.addressed p moment n basin.addressed is.pools.addressed
              (late_kind Addressed configs h moment late) gone;
          tagged = subst (λ (k : Basin). PoolsStand k (entry moment (Leaves n) ∷ t)) (sym same)
              (leave_elsewhere v.pools.tagged t moment n basin.tagged is.pools.tagged
              (late_kind Tagged configs h moment late) (basin.apart n there));
        };
        latest_is = refl;
        riders_are = riders_kept v configs h moment (Leave n) told.Fine is refl;
      };
    }

-- one with buckets by tags is left
pub tag_left_made : (v : ScriptView) (configs : List Configuration) (h : History) (moment n : ℕ) (q : BothPools)
    → Is v configs h → AreBasins v.pools → v.latest ≤ moment
    → is_some (seat_in v.pools.tagged n) ≡ true → HasLeft v.pools.tagged q.tagged n
    → q.addressed ≡ v.pools.addressed
    → IsMade (record v { pools = q; latest = moment }) configs h moment (Leave n) told.Fine
unfolding next_at
tag_left_made v configs h moment n q is basin late there gone same =
    let late : latest h ≤ moment = subst (λ (k : ℕ). k ≤ moment) is.latest_is late in
    let m = marked configs h in
    let p = pool_history Addressed configs m in
    let t = pool_history Tagged configs m in
    let beside = none_beside v.pools n basin there in
    let said : next_at configs m moment (Leave n) ≡ gives told.Fine =
    ap (λ (b : Bool). if b then gives told.Fine else leave_next t n nothing)
    (unused v.pools.addressed p n is.pools.addressed beside)
    ∙ ap (λ (b : Bool). if b then gives told.Fine else nothing) (used v.pools.tagged t n is.pools.tagged there) in
    let a = leave_answered configs h v.state moment n told.Fine is.engine late said in
    record {
      next_is = a.next_is;
      is = record {
        engine = a.stands;
        pools = record {
          addressed = subst (λ (k : Basin). PoolsStand k (entry moment (Leaves n) ∷ p)) (sym same)
              (leave_elsewhere v.pools.addressed p moment n basin.addressed is.pools.addressed
              (late_kind Addressed configs h moment late) beside);
          tagged = leave_stands v.pools.tagged q.tagged t moment n basin.tagged is.pools.tagged
              (late_kind Tagged configs h moment late) gone;
        };
        latest_is = refl;
        riders_are = riders_kept v configs h moment (Leave n) told.Fine is refl;
      };
    }

-- a seat that is not in use is granted nothing, and not left
pub grant_unused : (v : ScriptView) (configs : List Configuration) (h : History) (moment n wanted : ℕ) → Is v configs h
    → v.latest ≤ moment → seat_in v.pools.addressed n ≡ None → seat_in v.pools.tagged n ≡ None
    → next configs (marked configs h) moment (Grant n wanted) ≡ nothing
unfolding next_at
grant_unused v configs h moment n wanted is late none other =
    let m = marked configs h in
    let p = pool_history Addressed configs m in
    let t = pool_history Tagged configs m in
    next_now configs h moment (Grant n wanted) (subst (λ (k : ℕ). k ≤ moment) is.latest_is late)
    ∙ ap (λ (b : Bool). if b then gives (told.Granted (grant_of p moment wanted (seat_of p n)))
    else grant_next t moment n wanted nothing) (unused v.pools.addressed p n is.pools.addressed none)
    ∙ ap (λ (b : Bool). if b then gives (told.Granted (grant_of t moment wanted (seat_of t n))) else nothing)
    (unused v.pools.tagged t n is.pools.tagged other)

pub leave_unused : (v : ScriptView) (configs : List Configuration) (h : History) (moment n : ℕ) → Is v configs h
    → v.latest ≤ moment → seat_in v.pools.addressed n ≡ None → seat_in v.pools.tagged n ≡ None
    → next configs (marked configs h) moment (Leave n) ≡ nothing
unfolding next_at
leave_unused v configs h moment n is late none other =
    let m = marked configs h in
    let p = pool_history Addressed configs m in
    let t = pool_history Tagged configs m in
    next_now configs h moment (Leave n) (subst (λ (k : ℕ). k ≤ moment) is.latest_is late)
    ∙ ap (λ (b : Bool). if b then gives told.Fine else leave_next t n nothing)
    (unused v.pools.addressed p n is.pools.addressed none)
    ∙ ap (λ (b : Bool). if b then gives told.Fine else nothing) (unused v.pools.tagged t n is.pools.tagged other)
