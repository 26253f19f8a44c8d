-- What stays with each line of a script stays with the run; the history of a run is legal.
use Rattle.std.proofs.Common.{◌≡◌, ◌⊎◌, inl, inr, ℕ, ℤ, ◌+◌, List, [], ◌∷◌, length, Bool, true, false, ◌&&◌, nat_le, if◌then◌else◌, max, Some, None, Ok, Err, Result, is_some, pos, refl, ap, subst, arith}
use Rattle.std.specs.Option.{option_map}
use Rattle.std.specs.declared.option.Option.{Option}
use Rattle.sq_base.specs.Targets.{Target, target_of}
use Rattle.sq_base.specs.declared.requests.Field.{Field}
use Rattle.sq_outside.specs.SourceLines.{SourceLine, is_readable}
use Rattle.sq_request.specs.Heads.{at_target, most_fields, request_with}
use Rattle.sq_request.specs.Written.{is_written, made_request}
use Rattle.sq_machine.specs.declared.entries.Event.{Event}
use Rattle.sq_machine.specs.declared.entries.Event.TheVariants.{Begin, Open, Close, Ask, Step, Take, Started, StartFail, Line as HelperLine, Died, Act, Reconfigure, Seat, Grant, Leave}
use Rattle.sq_machine.specs.declared.entries.Told.{Told}
use Rattle.sq_rules.specs.ConfText.{conf_result}
use Rattle.sq_rules.specs.declared.kinds.ConfError.{ConfError}
use Rattle.sq_rules.specs.Configurations.{Configuration}
use Rattle.sq_machine.specs.Entries.{History, entry_at}
use Rattle.sq_machine.specs.Machine.{Legal, next}
use Rattle.sq_machine.specs.Events.{has_target, is_begin}
use Rattle.sq_machine.specs.Next.{Next, gives, nothing, refuses}
use Rattle.sq_machine.specs.Marking.{marked}
use Rattle.sq_machine.specs.Readings.{current, latest}
use Rattle.sq_model.proofs.PromiseLaws.{legal_more}
use Rattle.sq_replay.specs.declared.ends.RunEnd.{RunEnd}
use Rattle.sq_replay.specs.declared.ends.RunEnd.TheVariants as ends
use Rattle.sq_replay.specs.RunText.{ScriptRun, Shelf, accepted, acts, answered, asked_next, begun_history, event_step, first_history, line_step, reconfigured, run_first, run_from, run_lines, run_on, run_over, run_stated, stated, stated_step, stopped}
use Rattle.sq_replay.specs.Steps.{IsEntered, IsStep}
use Rattle.sq_replay.specs.Dues.{dues}
use Rattle.sq_replay.proofs.ActLaws.{act_legal, acts_keep}

-- one line

-- what an answer that is given leaves
record IsGiven (configs : List Configuration) (h : History) (moment : ℕ) (event : Event) (n : Next)
    (t : History) : Type 0 where
  pub answer : Told
  pub next_is : n ≡ gives answer
  pub history_is : acts configs (entry_at moment event answer ∷ h) ≡ t

given_ok : (configs : List Configuration) (h : History) (number moment : ℕ) (event : Event) (n : Next) (t : History)
    → answered configs h number moment event n ≡ Ok t → IsGiven configs h moment event n t
given_ok configs h number moment event (gives u) t e = record { answer = u; next_is = refl; history_is = cc }
given_ok configs h number moment event (refuses r) t e = absurd (cc)
given_ok configs h number moment event nothing t e = absurd (cc)

asked_step : (files : Shelf) (configs : List Configuration) (h : History) (e number now : ℕ) (event entered : Event)
    (t : History) → IsEntered files e event entered → is_begin entered ≡ false
    → has_target entered ≡ true → asked_next configs h number now entered ≡ Ok t → IsStep files configs h e event t
asked_step files configs h e number now event entered t is b f ok =
    let g = given_ok configs h number (max now (latest h)) entered
    (next configs (marked configs h) (max now (latest h)) entered) t ok in
    record {
      entered = entered;
      moment = max now (latest h);
      answer = g.answer;
      entered_is = is;
      begins_none = b;
      formed = f;
      late = omega arith;
      next_is = g.next_is;
      history_is = g.history_is;
    }

with_target : (method target : List ℕ) (fields : List Field) (o : Option Target) → target_of method target ≡ o
    → is_some (option_map (at_target method target 1 fields) o) ≡ true
    → is_some (target_of method target) ≡ true
with_target method target fields None e s = absurd (cc)
with_target method target fields (Some t) e s = ap is_some e

if_made : (method target : List ℕ) (fields : List Field) (b : Bool)
    → is_some (if b then request_with method target 1 fields else None) ≡ true
    → is_some (target_of method target) ≡ true
if_made method target fields true e = with_target method target fields (target_of method target) refl e
if_made method target fields false e = absurd (cc)

-- a request that is made has a target of its method's form
made_formed : (method target : List ℕ) (fields : List Field) → is_some (made_request method target 1 fields) ≡ true
    → is_some (target_of method target) ≡ true
made_formed method target fields e = if_made method target fields
    (is_written method target 1 fields && nat_le (length fields) most_fields) e

if_ok : {A : Type 0} (b : Bool) (step : Result A RunEnd) (end : RunEnd) (t : A) → (if b then step else Err end) ≡ Ok t
    → (b ≡ true) × (step ≡ Ok t)
if_ok true step end t e = (refl, e)
if_ok false step end t e = absurd (cc)

-- a reconfiguration that is made
accepted_ok : (read : Result Configuration ConfError) (step : Result History RunEnd) (t : History)
    → accepted read step ≡ Ok t → (config : Configuration) × (read ≡ Ok config) × (step ≡ Ok t)
accepted_ok (Ok config) step t e = (config, refl, e)
accepted_ok (Err f) step t e = absurd (cc)

named_step : (files : Shelf) (configs : List Configuration) (h : History) (number now : ℕ) (name : List ℕ) (t : History)
    (o : Option (List ℕ)) → files (current h) name ≡ o
    → reconfigured configs h number now name o ≡ Ok t → IsStep files configs h (current h) (Reconfigure name) t
named_step files configs h number now name t None is e = absurd (cc)
named_step files configs h number now name t (Some text) is e =
    let k = accepted_ok (conf_result text) (asked_next configs h number now (Reconfigure text)) t e in
    asked_step files configs h (current h) number now (Reconfigure name) (Reconfigure text) t
    (text, refl, record { config = k.0; text_is = is; gives_it = k.1 }) refl refl k.2

-- an event of a script that is made
pub event_made : (files : Shelf) (configs : List Configuration) (h : History) (number now : ℕ) (event : Event)
    (t : History) → event_step files configs h number now event ≡ Ok t
    → IsStep files configs h (current h) event t
event_made files configs h number now (Begin offset) t e = absurd (cc)
event_made files configs h number now Act t e = absurd (cc)
event_made files configs h number now (Ask conn method target fields) t e =
    let made = if_ok (is_some (made_request method target 1 fields))
    (asked_next configs h number now (Ask conn method target fields)) (ends.Script number) t e in
    asked_step files configs h (current h) number now (Ask conn method target fields) (Ask conn method target fields) t
    (refl, refl) refl (made_formed method target fields made.0) made.1
event_made files configs h number now (Reconfigure name) t e =
    named_step files configs h number now name t (files (current h) name) refl e
event_made files configs h number now (Open c a p) t e = asked_step files configs h (current h) number now (Open c a p)
    (Open c a p) t (refl, refl) refl refl e
event_made files configs h number now (Close c) t e = asked_step files configs h (current h) number now (Close c)
    (Close c) t (refl, refl) refl refl e
event_made files configs h number now (Step c) t e = asked_step files configs h (current h) number now (Step c) (Step c)
    t (refl, refl) refl refl e
event_made files configs h number now (Take c) t e = asked_step files configs h (current h) number now (Take c) (Take c)
    t (refl, refl) refl refl e
event_made files configs h number now (Started x c) t e = asked_step files configs h (current h) number now
    (Started x c) (Started x c) t (refl, refl) refl refl e
event_made files configs h number now (StartFail x c) t e =
    asked_step files configs h (current h) number now (StartFail x c) (StartFail x c) t (refl, refl) refl refl e
event_made files configs h number now (HelperLine k b) t e =
    asked_step files configs h (current h) number now (HelperLine k b) (HelperLine k b) t (refl, refl) refl refl e
event_made files configs h number now (Died k) t e = asked_step files configs h (current h) number now (Died k) (Died k)
    t (refl, refl) refl refl e
event_made files configs h number now (Seat c) t e = asked_step files configs h (current h) number now (Seat c) (Seat c)
    t (refl, refl) refl refl e
event_made files configs h number now (Grant s w) t e = asked_step files configs h (current h) number now (Grant s w)
    (Grant s w) t (refl, refl) refl refl e
event_made files configs h number now (Leave s) t e = asked_step files configs h (current h) number now (Leave s)
    (Leave s) t (refl, refl) refl refl e

-- a line that is run states an event, which is made
pub record IsRun (files : Shelf) (configs : List Configuration) (h : History) (l : SourceLine)
    (t : History) : Type 0 where
  pub now : ℕ
  pub event : Event
  pub states : stated l.bytes ≡ Some (now, event)
  pub step : IsStep files configs h (current h) event t

-- so it is of a line that states an event
pub stated_made : (files : Shelf) (configs : List Configuration) (h : History) (number : ℕ) (l : SourceLine)
    (o : Option (ℕ × Event)) (t : History) → stated l.bytes ≡ o
    → stated_step files configs h number o ≡ Ok t → IsRun files configs h l t
stated_made files configs h number l None t is e = absurd (cc)
stated_made files configs h number l (Some (now, event)) t is e =
    record { now = now; event = event; states = is; step = event_made files configs h number now event t e }

line_made : (files : Shelf) (configs : List Configuration) (h : History) (number place : ℕ) (l : SourceLine)
    (t : History) → line_step files configs h number place l ≡ Ok t → IsRun files configs h l t
line_made files configs h number place l t e =
    stated_made files configs h number l (stated l.bytes) t refl
    (if_ok (is_readable place l) (stated_step files configs h number (stated l.bytes)) (ends.Script number) t e).1

-- the run

-- what stays with each event of the script
abbrev pub Stays : Shelf → List Configuration → (List SourceLine → History → Type 0) → Type 0
Stays files configs P = (l : SourceLine) (ls : List SourceLine) (h : History) (now : ℕ) (event : Event) (t : History)
    → stated l.bytes ≡ Some (now, event)
    → IsStep files configs h (current h) event t → P (l ∷ ls) h → P ls t

on_keeps : (Q : History → Type 0) (h : History) (step step' : Result History RunEnd) (go : History → ScriptRun)
    → step ≡ step' → Q h → ((t : History) → step ≡ Ok t → Q (go t).history)
    → Q (run_on h step' go).history
on_keeps Q h step (Ok t) go same q more = more t same
on_keeps Q h step (Err end) go same q more = q

-- stays with the lines
pub lines_keep : (files : Shelf) (configs : List Configuration) (P : List SourceLine → History → Type 0)
    (Q : History → Type 0) → ((ls : List SourceLine) (h : History) → P ls h → Q h)
    → Stays files configs P → (h : History) (number place : ℕ) (ls : List SourceLine) → P ls h
    → Q (run_lines files configs h number place ls).history
lines_keep files configs P Q is stays h number place [] p = is [] h p
lines_keep files configs P Q is stays h number place (l ∷ ls) p =
    let step = line_step files configs h number place l in
    on_keeps Q h step step (λ t. run_lines files configs t (number + 1) (place + length l.bytes + 1) ls) refl
    (is (l ∷ ls) h p)
    (λ t e. let r = line_made files configs h number place l t e in
    lines_keep files configs P Q is stays t (number + 1) (place + length l.bytes + 1) ls
    (stays l ls h r.now r.event t r.states r.step p))

-- what is so as the machine begins, whatever its moment and its offset,
-- and whether its first line is run or says where it begins
pub record IsSoAtFirst (configs : List Configuration) (P : List SourceLine → History → Type 0)
    (ls : List SourceLine) : Type 0 where
  pub first : (now : ℕ) (offset : ℤ) → P ls (begun_history configs now offset)
  pub past : (l : SourceLine) (more : List SourceLine) (at now : ℕ) (offset by : ℤ) → ls ≡ l ∷ more
      → stated l.bytes ≡ Some (at, Begin by) → P more (begun_history configs now offset)

from_keeps : (files : Shelf) (configs : List Configuration) (P : List SourceLine → History → Type 0)
    (Q : History → Type 0) → ((ls : List SourceLine) (h : History) → P ls h → Q h) → Stays files configs P
    → (place now : ℕ) (l : SourceLine) (ls : List SourceLine) (event : Event) → stated l.bytes ≡ Some (now, event)
    → IsSoAtFirst configs P (l ∷ ls) → Q (run_from files configs place ls now event).history
from_keeps files configs P Q is stays place now l ls event states so =
    let h = begun_history configs now (pos 0) in
    let step = event_step files configs h 1 now event in
    on_keeps Q h step step (λ t. run_lines files configs t 2 place ls) refl (is (l ∷ ls) h (so.first now (pos 0)))
    (λ t e. lines_keep files configs P Q is stays t 2 place ls
    (stays l ls h now event t states (event_made files configs h 1 now event t e) (so.first now (pos 0))))

-- no history, or one of which it is so
abbrev pub OrNone : (History → Type 0) → History → Type 0
OrNone Q h = (h ≡ []) ⊎ Q h

first_keeps : (files : Shelf) (configs : List Configuration) (P : List SourceLine → History → Type 0)
    (Q : History → Type 0) → ((ls : List SourceLine) (h : History) → P ls h → Q h) → Stays files configs P
    → (place now : ℕ) (l : SourceLine) (ls : List SourceLine) (event : Event) → stated l.bytes ≡ Some (now, event)
    → IsSoAtFirst configs P (l ∷ ls) → OrNone Q (run_first files configs place ls now event).history
first_keeps files configs P Q is stays place now l ls (Begin offset) e so =
    inr (lines_keep files configs P Q is stays (begun_history configs now offset) 2 place ls
    (so.past l ls now now offset offset refl e))
first_keeps files configs P Q is stays place now l ls Act e so = inl refl
first_keeps files configs P Q is stays place now l ls (Open c a p) e so =
    inr (from_keeps files configs P Q is stays place now l ls (Open c a p) e so)
first_keeps files configs P Q is stays place now l ls (Close c) e so =
    inr (from_keeps files configs P Q is stays place now l ls (Close c) e so)
first_keeps files configs P Q is stays place now l ls (Ask c m t f) e so =
    inr (from_keeps files configs P Q is stays place now l ls (Ask c m t f) e so)
first_keeps files configs P Q is stays place now l ls (Step c) e so =
    inr (from_keeps files configs P Q is stays place now l ls (Step c) e so)
first_keeps files configs P Q is stays place now l ls (Take c) e so =
    inr (from_keeps files configs P Q is stays place now l ls (Take c) e so)
first_keeps files configs P Q is stays place now l ls (Started x c) e so =
    inr (from_keeps files configs P Q is stays place now l ls (Started x c) e so)
first_keeps files configs P Q is stays place now l ls (StartFail x c) e so =
    inr (from_keeps files configs P Q is stays place now l ls (StartFail x c) e so)
first_keeps files configs P Q is stays place now l ls (HelperLine k b) e so =
    inr (from_keeps files configs P Q is stays place now l ls (HelperLine k b) e so)
first_keeps files configs P Q is stays place now l ls (Died k) e so =
    inr (from_keeps files configs P Q is stays place now l ls (Died k) e so)
first_keeps files configs P Q is stays place now l ls (Reconfigure n) e so =
    inr (from_keeps files configs P Q is stays place now l ls (Reconfigure n) e so)
first_keeps files configs P Q is stays place now l ls (Seat c) e so =
    inr (from_keeps files configs P Q is stays place now l ls (Seat c) e so)
first_keeps files configs P Q is stays place now l ls (Grant s w) e so =
    inr (from_keeps files configs P Q is stays place now l ls (Grant s w) e so)
first_keeps files configs P Q is stays place now l ls (Leave s) e so =
    inr (from_keeps files configs P Q is stays place now l ls (Leave s) e so)

stated_keeps : (files : Shelf) (configs : List Configuration) (P : List SourceLine → History → Type 0)
    (Q : History → Type 0) → ((ls : List SourceLine) (h : History) → P ls h → Q h) → Stays files configs P
    → (place : ℕ) (l : SourceLine) (ls : List SourceLine) (o : Option (ℕ × Event)) → stated l.bytes ≡ o
    → IsSoAtFirst configs P (l ∷ ls) → OrNone Q (run_stated files configs place ls o).history
stated_keeps files configs P Q is stays place l ls None e so = inl refl
stated_keeps files configs P Q is stays place l ls (Some (now, event)) e so =
    first_keeps files configs P Q is stays place now l ls event e so

readable_keeps : (files : Shelf) (configs : List Configuration) (Q : History → Type 0) (b : Bool) (place : ℕ)
    (ls : List SourceLine) (o : Option (ℕ × Event))
    → OrNone Q (run_stated files configs place ls o).history
    → OrNone Q (if b then run_stated files configs place ls o else stopped (ends.Script 1)).history
readable_keeps files configs Q true place ls o q = q
readable_keeps files configs Q false place ls o q = inl refl

-- what is so as the machine begins, and stays with each event, is so of the run's history
pub run_keeps : (files : Shelf) (configs : List Configuration) (P : List SourceLine → History → Type 0)
    (Q : History → Type 0) → ((ls : List SourceLine) (h : History) → P ls h → Q h) → Stays files configs P
    → (ls : List SourceLine) → IsSoAtFirst configs P ls → OrNone Q (run_over files configs ls).history
run_keeps files configs P Q is stays [] so = inr (is [] (begun_history configs 0 (pos 0)) (so.first 0 (pos 0)))
run_keeps files configs P Q is stays (l ∷ ls) so =
    readable_keeps files configs Q (is_readable 0 l) (length l.bytes + 1) ls (stated l.bytes)
    (stated_keeps files configs P Q is stays (length l.bytes + 1) l ls (stated l.bytes) refl so)

-- legality

-- the acts that are due keep a legal history so
pub acts_legal : (configs : List Configuration) (h : History) → Legal configs h → Legal configs (acts configs h)
acts_legal configs h legal = acts_keep configs (Legal configs) (act_legal configs) (dues configs h) h legal

-- so does a step
pub step_legal : (files : Shelf) (configs : List Configuration) (h : History) (e : ℕ) (event : Event) (t : History)
    → IsStep files configs h e event t → Legal configs h → Legal configs t
step_legal files configs h e event t s legal =
    subst (Legal configs) s.history_is
    (acts_legal configs (entry_at s.moment s.entered s.answer ∷ h)
    (legal_more configs h s.moment s.entered s.answer legal s.begins_none s.formed s.late s.next_is))

-- the history of `begin`, with the acts that are due then
pub begun_legal : (configs : List Configuration) (now : ℕ) (offset : ℤ)
    → Legal configs (begun_history configs now offset)
begun_legal configs now offset = acts_legal configs (first_history now offset) (refl, refl)
