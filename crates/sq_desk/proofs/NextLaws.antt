-- What a desk answers is what the machine answers next.
use Rattle.std.proofs.Common.{◌≡◌, ◌∙◌, ℕ, ◌≤◌, ◌∷◌, max, List, true, false, Option, None, Some, IfOk, IfSome, OnOk, Result, Ok, Err, is_some, refl, ap, sym, subst, arith}
use Rattle.std.specs.Option.{option_map}
use Rattle.sq_base.specs.Addresses.{Address}
use Rattle.sq_base.specs.Requests.{HttpRequest}
use Rattle.sq_base.specs.Targets.{target_of}
use Rattle.sq_machine.specs.declared.entries.Event.{Event}
use Rattle.sq_machine.specs.declared.entries.Event.TheVariants.{Ask, Close, Died, Line, Open, Reconfigure, StartFail, Started, Step, Take}
use Rattle.sq_machine.specs.declared.entries.Event.TheVariants as event
use Rattle.sq_machine.specs.declared.entries.Told.{Told}
use Rattle.sq_machine.specs.declared.entries.Told.TheVariants as told
use Rattle.sq_machine.specs.declared.refusals.Refusal.{Refusal}
use Rattle.sq_machine.specs.declared.refusals.Refusal.TheVariants as refusal
use Rattle.sq_rules.specs.Classes.{Class}
use Rattle.sq_rules.specs.Configurations.{Configuration}
use Rattle.sq_machine.specs.DueActs.{ClassId}
use Rattle.sq_machine.specs.Entries.{History, entry_at}
use Rattle.sq_machine.specs.Epochs.{class_at}
use Rattle.sq_machine.specs.Machine.{next}
use Rattle.sq_machine.specs.Marking.{marked}
use Rattle.sq_machine.specs.Next.{Next, gives, refuses}
use Rattle.sq_machine.specs.Readings.{latest}
use Rattle.sq_checks.specs.OpenChecks.{CheckParts, row}
use Rattle.sq_checks.specs.Records.{Judged, judged_of}
use Rattle.sq_checks.specs.Tables.{value_at}
use Rattle.sq_machine.specs.declared.acts.Act.{Act}
use Rattle.sq_model.specs.CheckRows.{held_at}
use Rattle.sq_model.specs.declared.stepping.Stepped.{Stepped}
use Rattle.sq_model.specs.Answers.{ask_answer, asked_in, close_answer, died_answer, failed_answer, line_answer, name_in, open_answer, reconfigure_answer, started_answer, take_answer, take_of_held}
use Rattle.sq_model.specs.Changes.{after_ask, after_failed_at, after_started_at}
use Rattle.sq_model.specs.Promises.{StandsFor}
use Rattle.sq_model.specs.States.{IsSame, State}
use Rattle.sq_model.proofs.ConnStands.{close_next, open_next, take_next}
use Rattle.sq_model.proofs.LinePromises.{died_told, line_told_to}
use Rattle.sq_model.proofs.PromiseLaws.{next_now}
use Rattle.sq_model.proofs.ReconfigureStands.{reconfigure_next}
use Rattle.sq_engine.specs.Acting.{IsActPromised, told_of_act}
use Rattle.sq_engine.specs.EngineViews.{EngineView, state_of}
use Rattle.sq_engine.specs.Promised.{IsPromised, IsPromisedAt}
use Rattle.sq_engine.specs.Stepping.{after_step_now, epoch_of, step_now, stepped_told}
use Rattle.sq_engine.specs.Tellings.{IsTold}
use Rattle.sq_engine.proofs.PromiseLaws.{ask_promised, failed_promised, started_promised, step_promised}
use Rattle.sq_engine.proofs.TableLaws.{row_at_number}
use Rattle.sq_journal.specs.Noting.{with_entry}
use Rattle.sq_calls.specs.Legality.{Beginning, configs_over}
use Rattle.sq_calls.specs.Telling.{AddsOne, AddsSome, HasNext, RefusesClass, noted_at}
use Rattle.sq_calls.specs.declared.faults.DeskFault.{DeskFault}
use Rattle.sq_calls.specs.declared.faults.DeskFault.TheVariants as fault
use Rattle.sq_notes.specs.Calling.{DeskView, Makes}
use Rattle.sq_desk.specs.Desks.{IsReplay}
use Rattle.sq_desk.proofs.CallLaws.{same_self}
use Rattle.sq_desk.proofs.ReplayLaws.{over_of}

-- over each history for which the state stands, this is what the machine answers next to the event
abbrev pub IsNextBy : State → ℕ → Event → Next → Type 0
IsNextBy s now event said = (configs : List Configuration) (h : History) → StandsFor configs h s → latest h ≤ now
    → next configs (marked configs h) now event ≡ said

-- the same of an event that names a class: of each class at this place
abbrev pub IsNextAt : State → ℕ → (ℕ → List ℕ → Event) → ClassId → Next → Type 0
IsNextAt s now event p said = (configs : List Configuration) (h : History) (class : Class) → StandsFor configs h s
    → latest h ≤ now → class_at configs p.epoch p.class ≡ Some class
    → next configs (marked configs h) now (event p.epoch class.name) ≡ said

-- a desk's machine stands for its journal, unless a note failed
abbrev pub Replays : Beginning → DeskView → Type 0
Replays first v = v.notes.stopped ≡ false → IfSome v.notes.history (IsReplay first (state_of v.engine))

same_moment : (moment n l : ℕ) → l ≡ n → max moment l ≡ max moment n
same_moment moment n l e = ap (λ (k : ℕ). max moment k) e

no_sooner : (n moment l : ℕ) → l ≡ n → n ≤ max moment l
no_sooner n moment l e = omega arith

-- so it is over a history that the state replays
next_of : {first : Beginning} (s : State) (moment : ℕ) (event : Event) (said : Next) (h : History) → IsReplay first s h
    → IsNextBy s (max moment s.latest) event said
    → HasNext (Some first) h (noted_at moment h) event said
next_of s moment event said h r law =
    let o = over_of s h r in
    record {
      over = o.over;
      next_is = subst
          (λ (n : ℕ). next (configs_over o.over) (marked (configs_over o.over) h) n event ≡ said)
          (same_moment moment (latest h) s.latest r.late)
          (law (configs_over o.over) h o.stands (no_sooner (latest h) moment s.latest r.late));
    }

pub entered_one : (first : Beginning) (s : State) (moment : ℕ) (P : Event → Type 0) (answer : Told) (event : Event)
    (o new : Option History) → IfSome o (IsReplay first s) → P event
    → IsNextBy s (max moment s.latest) event (gives answer)
    → new ≡ with_entry (entry_at (max moment s.latest) event answer) o → AddsOne (Some first) moment P answer o new
entered_one first s moment P answer event None new r p law is = is
entered_one first s moment P answer event (Some h) new r p law is = (
  event,
  p,
  record {
    next = next_of s moment event (gives answer) h r law;
    entry = is ∙ ap (λ (n : ℕ). Some (entry_at n event answer ∷ h)) (same_moment moment (latest h) s.latest r.late);
  },
)

pub entered_some : (first : Beginning) (s : State) (moment : ℕ) (R : Told → Type 0) (P : Event → Type 0) (answer : Told)
    (event : Event) (o new : Option History) → IfSome o (IsReplay first s) → R answer → P event
    → IsNextBy s (max moment s.latest) event (gives answer)
    → new ≡ with_entry (entry_at (max moment s.latest) event answer) o → AddsSome (Some first) moment R P o new
entered_some first s moment R P answer event None new r q p law is = is
entered_some first s moment R P answer event (Some h) new r q p law is = (
  answer,
  q,
  event,
  p,
  record {
    next = next_of s moment event (gives answer) h r law;
    entry = is ∙ ap (λ (n : ℕ). Some (entry_at n event answer ∷ h)) (same_moment moment (latest h) s.latest r.late);
  },
)

pub next_told : (first : Beginning) (s : State) (moment : ℕ) (event : Event) (said : Next) (o : Option History)
    → IfSome o (IsReplay first s) → IsNextBy s (max moment s.latest) event said
    → IfSome o (λ h. HasNext (Some first) h (noted_at moment h) event said)
next_told first s moment event said None r law = tt
next_told first s moment event said (Some h) r law = next_of s moment event said h r law

pub refused_at : (first : Beginning) (s : State) (moment : ℕ) (event : ℕ → List ℕ → Event) (p : ClassId) (x : Refusal)
    (o : Option History) → IfSome o (IsReplay first s) → IsNextAt s (max moment s.latest) event p (refuses x)
    → IfSome o (λ h. RefusesClass (Some first) h (noted_at moment h) (event p.epoch) p.epoch p.class x)
refused_at first s moment event p x None r law = tt
refused_at first s moment event p x (Some h) r law =
    let o = over_of s h r in
    let configs = configs_over o.over in
    record {
      over = o.over;
      next_is = λ class at. subst
          (λ (n : ℕ). next configs (marked configs h) n (event p.epoch class.name) ≡ refuses x)
          (same_moment moment (latest h) s.latest r.late)
          (law configs h class o.stands (no_sooner (latest h) moment s.latest r.late) at);
    }

-- what was answered is what the machine answers next
abbrev pub IsNextOf : {A : Type 0} → (A → Told) → State → ℕ → Event → Result A DeskFault → Type 0
IsNextOf tell s now event (Ok a) = IsNextBy s now event (gives (tell a))
IsNextOf tell s now event (Err (fault.Engine r)) = IsNextBy s now event (refuses r)
IsNextOf tell s now event (Err f) = Unit {0}

abbrev pub IsNextOfAt : {A : Type 0} → (A → Told) → State → ℕ → (ℕ → List ℕ → Event) → ClassId → Result A DeskFault
    → Type 0
IsNextOfAt tell s now event p (Ok a) = IsNextBy s now (event p.epoch (name_in s p)) (gives (tell a))
IsNextOfAt tell s now event p (Err (fault.Engine r)) = IsNextAt s now event p (refuses r)
IsNextOfAt tell s now event p (Err f) = Unit {0}

-- where the machine answers so by the state
by_law : {A : Type 0} (tell : A → Told) (said : Next) (now : ℕ) (event : Event) (after : State) (v w : DeskView)
    (r : Result A DeskFault) → Makes tell said now event after v r w → IsNextBy (state_of v.engine) now event said
    → IsNextOf tell (state_of v.engine) now event r
by_law tell said now event after v w (Ok a) m law = λ configs h st late. law configs h st late ∙ m.next_is
by_law tell said now event after v w (Err fault.Stopped) m law = tt
by_law tell said now event after v w (Err (fault.Engine refusal.WantOfMemory)) m law = absurd m
by_law tell said now event after v w (Err (fault.Engine r)) m law = λ configs h st late. law configs h st late ∙
    m.next_is
by_law tell said now event after v w (Err fault.JournalFault) m law = tt
by_law tell said now event after v w (Err fault.WantOfMemory) m law = tt

-- where the machine's call promises it
by_promise : {A : Type 0} (tell : A → Told) (said : Next) (now : ℕ) (event : Event) (after : State) (v w : DeskView)
    (r : Result A DeskFault) → Makes tell said now event after v r w
    → ((q : Result A Refusal) → IsTold tell said q → IsPromised tell (state_of v.engine) now event q after)
    → IsNextOf tell (state_of v.engine) now event r
by_promise tell said now event after v w (Ok a) m law = λ configs h st late.
    (law (Ok a) m.next_is configs h st late).next_is
by_promise tell said now event after v w (Err fault.Stopped) m law = tt
by_promise tell said now event after v w (Err (fault.Engine refusal.WantOfMemory)) m law = absurd m
by_promise tell said now event after v w (Err (fault.Engine r)) m law = law (Err r) m.next_is
by_promise tell said now event after v w (Err fault.JournalFault) m law = tt
by_promise tell said now event after v w (Err fault.WantOfMemory) m law = tt

by_promise_at : {A : Type 0} (tell : A → Told) (said : Next) (now : ℕ) (event : ℕ → List ℕ → Event) (p : ClassId)
    (after : State) (v w : DeskView) (r : Result A DeskFault)
    → Makes tell said now (event p.epoch (name_in (state_of v.engine) p)) after v r w
    → ((q : Result A Refusal) → IsTold tell said q → IsPromisedAt tell (state_of v.engine) now event p q after)
    → IsNextOfAt tell (state_of v.engine) now event p r
by_promise_at tell said now event p after v w (Ok a) m law = λ configs h st late.
    (law (Ok a) m.next_is configs h st late).next_is
by_promise_at tell said now event p after v w (Err fault.Stopped) m law = tt
by_promise_at tell said now event p after v w (Err (fault.Engine refusal.WantOfMemory)) m law = absurd m
by_promise_at tell said now event p after v w (Err (fault.Engine r)) m law = law (Err r) m.next_is
by_promise_at tell said now event p after v w (Err fault.JournalFault) m law = tt
by_promise_at tell said now event p after v w (Err fault.WantOfMemory) m law = tt

on_same : {A : Type 0} (s : State) (q : Result A Refusal) → OnOk q (IsSame s s)
on_same s (Ok a) = same_self s
on_same s (Err x) = tt

-- each call
pub open_by : (v w : DeskView) (c : ℕ) (addr : Address) (port now : ℕ) (after : State) (r : Result (Unit {0}) DeskFault)
    → Makes {A = Unit {0}} (λ x. told.Fine) (open_answer (state_of v.engine) c) now (Open c addr port) after v r w
    → IsNextOf {A = Unit {0}} (λ x. told.Fine) (state_of v.engine) now (Open c addr port) r
open_by v w c addr port now after r m =
    by_law {A = Unit {0}} (λ x. told.Fine) (open_answer (state_of v.engine) c) now (Open c addr port) after v w r m
    (λ configs h st late. next_now configs h now (Open c addr port) late
    ∙ open_next configs (marked configs h) (state_of v.engine) now c addr port st.stands)

pub close_by : (v w : DeskView) (c now : ℕ) (after : State) (r : Result (Unit {0}) DeskFault)
    → Makes {A = Unit {0}} (λ x. told.Fine) (close_answer (state_of v.engine) c) now (Close c) after v r w
    → IsNextOf {A = Unit {0}} (λ x. told.Fine) (state_of v.engine) now (Close c) r
close_by v w c now after r m =
    by_law {A = Unit {0}} (λ x. told.Fine) (close_answer (state_of v.engine) c) now (Close c) after v w r m
    (λ configs h st late. next_now configs h now (Close c) late
    ∙ close_next configs (marked configs h) (state_of v.engine) now c st.stands)

pub died_by : (v w : DeskView) (k now : ℕ) (after : State) (r : Result (Unit {0}) DeskFault)
    → Makes {A = Unit {0}} (λ x. told.Fine) (died_answer (state_of v.engine) k) now (Died k) after v r w
    → IsNextOf {A = Unit {0}} (λ x. told.Fine) (state_of v.engine) now (Died k) r
died_by v w k now after r m =
    by_law {A = Unit {0}} (λ x. told.Fine) (died_answer (state_of v.engine) k) now (Died k) after v w r m
    (λ configs h st late. died_told configs h (state_of v.engine) now k st late)

pub take_by : (v w : DeskView) (n now : ℕ) (after : State) (r : Result Judged DeskFault)
    → Makes {A = Judged} (λ j. told.Judged j.epoch j.outcome) (take_answer (state_of v.engine) n) now (Take n) after v
    r w
    → IsNextOf {A = Judged} (λ j. told.Judged j.epoch j.outcome) (state_of v.engine) now (Take n) r
take_by v w n now after r m =
    by_law {A = Judged} (λ j. told.Judged j.epoch j.outcome) (take_answer (state_of v.engine) n) now (Take n) after v w
    r
    m
    (λ configs h st late. next_now configs h now (Take n) late
    ∙ take_next configs (marked configs h) (state_of v.engine) now n st.stands)

pub ask_by : (v w : DeskView) (c : ℕ) (request : HttpRequest) (now : ℕ) (r : Result ℕ DeskFault)
    → is_some (target_of request.method request.target) ≡ true
    → Makes told.Check (ask_answer (state_of v.engine) c) now (Ask c request.method request.target request.fields)
    (after_ask (asked_in (state_of v.engine) now c request.method request.target request.fields) now
    (state_of v.engine))
    v r w
    → IsNextOf told.Check (state_of v.engine) now (Ask c request.method request.target request.fields) r
ask_by v w c request now r formed m =
    let s = state_of v.engine in
    let after = after_ask (asked_in s now c request.method request.target request.fields) now s in
    by_promise told.Check (ask_answer s c) now (Ask c request.method request.target request.fields) after v w r m
    (λ q t. ask_promised told.Check s after now c request.method request.target request.fields q formed t
    (on_same after q))

pub step_by : (v w : DeskView) (n now : ℕ) (r : Result Stepped DeskFault)
    → Makes (stepped_told (state_of v.engine) (epoch_of (state_of v.engine) n)) (step_now (state_of v.engine) n now) now
    (Step n) (after_step_now (state_of v.engine) n now) v r w
    → IsNextOf (stepped_told (state_of v.engine) (epoch_of (state_of v.engine) n)) (state_of v.engine) now (Step n) r
step_by v w n now r m =
    let s = state_of v.engine in
    by_promise (stepped_told s (epoch_of s n)) (step_now s n now) now (Step n) (after_step_now s n now) v w r m
    (λ q t. step_promised (stepped_told s (epoch_of s n)) s (after_step_now s n now) now n q t
    (on_same (after_step_now s n now) q))

pub started_by : (v w : DeskView) (p : ClassId) (now : ℕ) (r : Result ℕ DeskFault)
    → Makes told.Proc (started_answer (state_of v.engine) p) now (Started p.epoch (name_in (state_of v.engine) p))
    (after_started_at p now (state_of v.engine)) v r w
    → IsNextOfAt told.Proc (state_of v.engine) now Started p r
started_by v w p now r m =
    let s = state_of v.engine in
    by_promise_at told.Proc (started_answer s p) now Started p (after_started_at p now s) v w r m
    (λ q t. started_promised told.Proc s (after_started_at p now s) now p q t (on_same (after_started_at p now s) q))

pub failed_by : (v w : DeskView) (p : ClassId) (now : ℕ) (r : Result (Unit {0}) DeskFault)
    → Makes {A = Unit {0}} (λ x. told.Fine) (failed_answer (state_of v.engine) p) now
    (StartFail p.epoch (name_in (state_of v.engine) p)) (after_failed_at p now (state_of v.engine)) v r w
    → IsNextOfAt {A = Unit {0}} (λ x. told.Fine) (state_of v.engine) now StartFail p r
failed_by v w p now r m =
    let s = state_of v.engine in
    by_promise_at {A = Unit {0}} (λ x. told.Fine) (failed_answer s p) now StartFail p (after_failed_at p now s) v w r m
    (λ q t. failed_promised {A = Unit {0}} s (after_failed_at p now s) now p q t (on_same (after_failed_at p now s) q))

pub line_by : (v : DeskView) (k now : ℕ) (line : List ℕ) → IsNextBy (state_of v.engine) now (Line k line)
    (line_answer (state_of v.engine) k line)
line_by v k now line = λ configs h st late. line_told_to configs h (state_of v.engine) now k line st late

pub reread_by : (v : DeskView) (config : Configuration) (now : ℕ) → IsNextBy (state_of v.engine) now
    (Reconfigure config.source) (reconfigure_answer (state_of v.engine))
reread_by v config now = λ configs h st late. next_now configs h now (Reconfigure config.source) late
    ∙ reconfigure_next configs (marked configs h) (state_of v.engine) now config.source st.stands

pub act_by : (s t : State) (now : ℕ) (a : Act) → IsActPromised s now (Some a) t
    → IsNextBy s now event.Act (gives (told_of_act s a))
act_by s t now a p = λ configs h st late. (p configs h st late).next_is

-- a record that is given is of the check
known_check : (v : EngineView) (n : ℕ) (answer : Told) → take_answer (state_of v) n ≡ gives answer
    → (k : CheckParts) × (value_at v.checks n ≡ Some k)
known_check v n answer is = parts (value_at v.checks n) refl
  where
    none : take_of_held (state_of v) n None ≡ gives answer → ⊥
    none e = cc

    parts : (o : Option CheckParts) → value_at v.checks n ≡ o → (k : CheckParts) × (value_at v.checks n ≡ Some k)
    parts (Some k) e = (k, e)
    parts None e =
        let gone : held_at n (state_of v).checks ≡ None = row_at_number n v.checks ∙ ap (option_map (row n)) e in
        absurd (none (sym (ap (take_of_held (state_of v) n) gone) ∙ is))

pub of_check : (v w : DeskView) (n now : ℕ) (after : State) (r : Result Judged DeskFault)
    → Makes {A = Judged} (λ j. told.Judged j.epoch j.outcome) (take_answer (state_of v.engine) n) now (Take n) after v
    r w
    → IfOk r (λ j. (k : CheckParts) → value_at v.engine.checks n ≡ Some k → j ≡ judged_of n j.outcome k)
    → IfOk r (λ j. j.check ≡ n)
of_check v w n now after (Ok j) m is =
    let k = known_check v.engine n (told.Judged j.epoch j.outcome) m.next_is in
    ap (λ (x : Judged). x.check) (is k.0 k.1)
of_check v w n now after (Err f) m is = tt
