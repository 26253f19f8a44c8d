-- From the laws of a state to what is promised of an answer; and the moment that counts, by the state.
use Rattle.std.proofs.Common.{◌≡◌, ℕ, ℤ, ◌≤◌, max, List, [], ◌∷◌, Bool, true, false, if◌then◌else◌, Some, is_some, refl, sym, ap, ◌∙◌, arith}
use Rattle.sq_base.specs.Addresses.{Address}
use Rattle.sq_base.specs.Targets.{target_of}
use Rattle.sq_base.specs.declared.requests.Field.{Field}
use Rattle.sq_machine.specs.declared.entries.Event.{Event}
use Rattle.sq_machine.specs.declared.entries.Event.TheVariants.{Ask, Begin, Close, Grant, Leave, Open, Seat, Take}
use Rattle.sq_machine.specs.declared.entries.Told.{Told}
use Rattle.sq_machine.specs.declared.entries.Told.TheVariants as told
use Rattle.sq_rules.specs.Configurations.{Configuration, IsConfiguration}
use Rattle.sq_machine.specs.Entries.{History, entry_at}
use Rattle.sq_machine.specs.Machine.{Legal, next, next_at}
use Rattle.sq_machine.specs.Epochs.{config_of}
use Rattle.sq_machine.specs.Events.{has_target, is_begin}
use Rattle.sq_machine.specs.Next.{gives}
use Rattle.sq_machine.specs.Marking.{marked}
use Rattle.sq_machine.specs.Marks.{entries}
use Rattle.sq_machine.specs.Readings.{counted_moment, latest}
use Rattle.sq_model.specs.Given.{EachOf}
use Rattle.sq_model.proofs.LegalLaws.{marked_entries}
use Rattle.sq_model.specs.Answers.{ask_answer, asked_in, close_answer, open_answer, take_answer}
use Rattle.sq_model.specs.Changes.{after_ask, after_close, after_open, after_take, first_state}
use Rattle.sq_model.specs.Promises.{IsAnswered, StandsFor}
use Rattle.sq_model.specs.Sources.{IsSourced}
use Rattle.sq_model.specs.States.{IsSame, Stands, State, is_of_pools, machine_moment}
use Rattle.sq_model.proofs.ConnStands.{ask_next, ask_stands, close_next, close_stands, open_next, open_stands, take_next, take_stands}
use Rattle.sq_model.proofs.Lawful.{Lawful, lawful, stands_same}
use Rattle.sq_model.proofs.QuietStands.{first_stands, grant_stands, leave_stands, seat_stands}

-- a history that a state stands for is lawful
pub law_of : (configs : List Configuration) (h : History) (s : State) → StandsFor configs h s
    → Lawful configs (marked configs h)
law_of configs h s st = lawful configs h st.good st.legal

-- no entry of the machine is later than the newest
pub machine_first : (configs : List Configuration) (h : History) → Legal configs h → machine_moment h ≤ latest h
machine_first configs [] legal = absurd legal
machine_first configs (e ∷ []) legal = by (is_of_pools e.event)
  where
    by : (b : Bool) → (if b then 0 else e.moment) ≤ e.moment
    by true = omega arith
    by false = omega arith
machine_first configs (e ∷ f ∷ h) legal = by (is_of_pools e.event) (machine_first configs (f ∷ h) legal.0)
  where
    later : f.moment ≤ e.moment
    later = legal.3

    by : (b : Bool) → machine_moment (f ∷ h) ≤ f.moment → (if b then machine_moment (f ∷ h) else e.moment) ≤ e.moment
    by true old = omega arith
    by false old = omega arith

-- the moment that counts, where entries of delay pools are none later than the one that is handed in
pub moment_is : (configs : List Configuration) (h : History) (s : State) (moment : ℕ) → StandsFor configs h s
    → latest h ≤ max moment s.latest
    → counted_moment h moment ≡ max moment s.latest
moment_is configs h s moment st late =
    let own : s.latest ≡ machine_moment h = st.stands.latest_is ∙ ap machine_moment (marked_entries configs h) in
    let first = machine_first configs h st.legal in
    omega arith

-- so the next answer at a moment is that at the moment that counts
pub next_moment : (configs : List Configuration) (h : History) (s : State) (moment : ℕ) (event : Event)
    → StandsFor configs h s → latest h ≤ max moment s.latest
    → next configs (marked configs h) moment event ≡ next configs (marked configs h) (max moment s.latest) event
unfolding next
next_moment configs h s moment event st late =
    ap (λ (n : ℕ). next_at configs (marked configs h) n event)
    (counts moment late ∙ sym (counts (max moment s.latest) (omega arith) ∙ same))
  where
    counts : (k : ℕ) → latest h ≤ max k s.latest → counted_moment (entries (marked configs h)) k ≡ max k s.latest
    counts k l = ap (λ (g : History). counted_moment g k) (marked_entries configs h) ∙ moment_is configs h s k st l

    same : max (max moment s.latest) s.latest ≡ max moment s.latest
    same = omega arith

-- at a moment that is none of the past
pub next_now : (configs : List Configuration) (h : History) (now : ℕ) (event : Event) → latest h ≤ now
    → next configs (marked configs h) now event ≡ next_at configs (marked configs h) now event
unfolding next
next_now configs h now event late =
    let same : max now (latest h) ≡ now = omega arith in
    ap (λ (n : ℕ). next_at configs (marked configs h) n event)
    (ap (λ (g : History). counted_moment g now) (marked_entries configs h) ∙ same)

-- a legal history stays so with the next answer
pub legal_more : (configs : List Configuration) (h : History) (now : ℕ) (event : Event) (answer : Told)
    → Legal configs h → is_begin event ≡ false → has_target event ≡ true
    → latest h ≤ now → next configs (marked configs h) now event ≡ gives answer
    → Legal configs (entry_at now event answer ∷ h)
legal_more configs [] now event answer legal b t late next = absurd legal
legal_more configs (f ∷ h) now event answer legal b t late next = (legal, b, t, late, next)

-- what is answered so, where the answer is the next and a state stands for what it leaves
pub answered_so : (configs : List Configuration) (h : History) (s after : State) (now : ℕ) (event : Event)
    (answer : Told) → StandsFor configs h s → is_begin event ≡ false → has_target event ≡ true
    → IsSourced configs h event → latest h ≤ now → next_at configs (marked configs h) now event ≡ gives answer
    → Stands configs (marked configs (entry_at now event answer ∷ h)) after
    → IsAnswered configs h now event answer after
answered_so configs h s after now event answer st b t source late next stands =
    let is = next_now configs h now event late ∙ next in
    record {
      next_is = is;
      stands =
          record {
            good = st.good;
            legal = legal_more configs h now event answer st.legal b t late is;
            sourced = (source, st.sourced);
            stands = stands;
          };
    }

-- an `open` that the state answers
pub open_answered : (configs : List Configuration) (h : History) (s : State) (now c : ℕ) (addr : Address) (port : ℕ)
    (answer : Told) → StandsFor configs h s → latest h ≤ now
    → open_answer s c ≡ gives answer
    → IsAnswered configs h now (Open c addr port) answer (after_open c (record { addr = addr; port = port }) now s)
open_answered configs h s now c addr port answer st late is =
    let next = open_next configs (marked configs h) s now c addr port st.stands ∙ is in
    answered_so configs h s _ now (Open c addr port) answer st refl refl tt late next
    (open_stands configs (marked configs h) s now c addr port answer st.stands next)

-- a `close` that it answers
pub close_answered : (configs : List Configuration) (h : History) (s : State) (now c : ℕ) (answer : Told)
    → StandsFor configs h s → latest h ≤ now
    → close_answer s c ≡ gives answer → IsAnswered configs h now (Close c) answer (after_close c now s)
close_answered configs h s now c answer st late is =
    let next = close_next configs (marked configs h) s now c st.stands ∙ is in
    answered_so configs h s _ now (Close c) answer st refl refl tt late next
    (close_stands configs (marked configs h) s now c answer (law_of configs h s st) st.stands next)

-- an `ask` that it answers, whose target has its form
pub ask_answered : (configs : List Configuration) (h : History) (s : State) (now c : ℕ) (method target : List ℕ)
    (fields : List Field) (answer : Told) → StandsFor configs h s
    → latest h ≤ now → is_some (target_of method target) ≡ true → ask_answer s c ≡ gives answer
    → IsAnswered configs h now (Ask c method target fields) answer
    (after_ask (asked_in s now c method target fields) now s)
ask_answered configs h s now c method target fields answer st late formed is =
    let next = ask_next configs (marked configs h) s now c method target fields (law_of configs h s st).alone st.stands
    ∙ is in
    answered_so configs h s _ now (Ask c method target fields) answer st refl formed tt late next
    (ask_stands configs (marked configs h) s now c method target fields answer st.stands)

-- a `take` that it answers
pub take_answered : (configs : List Configuration) (h : History) (s : State) (now n : ℕ) (answer : Told)
    → StandsFor configs h s → latest h ≤ now
    → take_answer s n ≡ gives answer → IsAnswered configs h now (Take n) answer (after_take n now s)
take_answered configs h s now n answer st late is =
    let next = take_next configs (marked configs h) s now n st.stands ∙ is in
    answered_so configs h s _ now (Take n) answer st refl refl tt late next
    (take_stands configs (marked configs h) s now n answer (law_of configs h s st) st.stands)

-- a state that is the same has answered so too
pub answered_same : (configs : List Configuration) (h : History) (s t : State) (now : ℕ) (event : Event) (answer : Told)
    → IsSame t s → IsAnswered configs h now event answer s
    → IsAnswered configs h now event answer t
answered_same configs h s t now event answer is a =
    record {
      next_is = a.next_is;
      stands = record {
        good = a.stands.good;
        legal = a.stands.legal;
        sourced = a.stands.sourced;
        stands = stands_same configs _ s t is a.stands.stands;
      };
    }

-- the first state, at the beginning
pub first_for : (configs : List Configuration) (config : Configuration) (offset : ℤ) (now : ℕ)
    → EachOf IsConfiguration configs → config_of configs 1 ≡ Some config
    → StandsFor configs (entry_at now (Begin offset) (told.Epoch 1) ∷ []) (first_state config offset now)
first_for configs config offset now good is = record {
  good = good;
  legal = (refl, refl);
  sourced = (tt, tt);
  stands = first_stands configs config offset now (told.Epoch 1) is;
}

-- a seat that is answered leaves the state
pub seat_answered : (configs : List Configuration) (h : History) (s : State) (now c : ℕ) (answer : Told)
    → StandsFor configs h s → latest h ≤ now
    → next_at configs (marked configs h) now (Seat c) ≡ gives answer → IsAnswered configs h now (Seat c) answer s
seat_answered configs h s now c answer st late next =
    answered_so configs h s s now (Seat c) answer st refl refl tt late next
    (seat_stands configs (marked configs h) s now c answer st.stands)

-- so does a grant
pub grant_answered : (configs : List Configuration) (h : History) (s : State) (now n wanted : ℕ) (answer : Told)
    → StandsFor configs h s → latest h ≤ now
    → next_at configs (marked configs h) now (Grant n wanted) ≡ gives answer
    → IsAnswered configs h now (Grant n wanted) answer s
grant_answered configs h s now n wanted answer st late next =
    answered_so configs h s s now (Grant n wanted) answer st refl refl tt late next
    (grant_stands configs (marked configs h) s now n wanted answer st.stands)

-- and a seat that is left
pub leave_answered : (configs : List Configuration) (h : History) (s : State) (now n : ℕ) (answer : Told)
    → StandsFor configs h s → latest h ≤ now
    → next_at configs (marked configs h) now (Leave n) ≡ gives answer → IsAnswered configs h now (Leave n) answer s
leave_answered configs h s now n answer st late next =
    answered_so configs h s s now (Leave n) answer st refl refl tt late next
    (leave_stands configs (marked configs h) s now n answer st.stands)
