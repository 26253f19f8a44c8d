-- From what a call of a desk answers and leaves to what it tells those who make it.
use Rattle.std.proofs.Common.{◌≡◌, ◌∙◌, ℕ, ◌+◌, ◌≤◌, List, max, min, Option, Some, None, IsSome, Result, Ok, Err, IfOk, OnOk, is_some, true, refl, ap, arith, slice_get}
use Rattle.std.proofs.Math.Path.{fun_ext}
use Rattle.std.specs.Option.{option_and_then, option_map}
use Rattle.sq_base.specs.Addresses.{Address}
use Rattle.sq_base.specs.Requests.{HttpRequest}
use Rattle.sq_base.specs.Targets.{target_of}
use Rattle.sq_outside.specs.Causes.{count_limit, raised}
use Rattle.sq_machine.specs.declared.entries.Event.{Event}
use Rattle.sq_machine.specs.declared.entries.Event.TheVariants.{Ask, Close, Died, Open, StartFail, Started, Step, Take}
use Rattle.sq_machine.specs.declared.entries.Event.TheVariants as event
use Rattle.sq_machine.specs.declared.entries.Told.{Told}
use Rattle.sq_machine.specs.declared.entries.Told.TheVariants as told
use Rattle.sq_machine.specs.declared.refusals.Refusal.TheVariants as refusal
use Rattle.sq_rules.specs.Configurations.{Configuration}
use Rattle.sq_machine.specs.DueActs.{ClassId}
use Rattle.sq_machine.specs.Entries.{History, entry_at}
use Rattle.sq_machine.specs.Next.{Next, gives, nothing, refuses}
use Rattle.sq_channel.specs.declared.replies.Got.{Got}
use Rattle.sq_channel.specs.declared.replies.Got.TheVariants as got
use Rattle.sq_model.specs.declared.stepping.Stepped.{Stepped}
use Rattle.sq_model.specs.declared.stepping.Stepped.TheVariants as stepped
use Rattle.sq_machine.specs.declared.acts.Act.{Act}
use Rattle.sq_machine.specs.declared.acts.Act.TheVariants as act
use Rattle.sq_checks.specs.Records.{Judged}
use Rattle.sq_model.specs.Answers.{ask_answer, asked_in, close_answer, died_answer, failed_answer, line_answer, name_in, open_answer, reconfigure_answer, started_answer, take_answer}
use Rattle.sq_model.specs.Changes.{after_ask, after_close, after_failed_at, after_open, after_started_at, after_take}
use Rattle.sq_model.specs.Says.{class_in}
use Rattle.sq_model.specs.States.{State}
use Rattle.sq_engine.proofs.ConfigLaws.{acted_config}
use Rattle.sq_engine.specs.Acting.{IsActPromised, due_now, told_of_act}
use Rattle.sq_engine.specs.EngineViews.{state_of}
use Rattle.sq_engine.specs.Lines.{got_told as by_machine}
use Rattle.sq_engine.specs.Stepping.{after_step_now, epoch_of, step_now, stepped_told}
use Rattle.sq_journal.specs.Noting.{with_entry}
use Rattle.sq_calls.specs.Legality.{Beginning, IsNameOf}
use Rattle.sq_calls.specs.Telling.{CountsReconfigured, CountsLine, CountsRefusal, IsEventOf, IsLine, IsReread, IsStepTold, IsTakeTold, IsUnrefused, MayAct, Notes, NotesAs, Refuses, RefusesAt, got_told, reports_stop}
use Rattle.sq_calls.specs.declared.faults.DeskFault.{DeskFault}
use Rattle.sq_calls.specs.declared.faults.DeskFault.TheVariants as fault
use Rattle.sq_notes.specs.Calling.{Acts, DeskView, Makes, Reads, Rereads, after_died}
use Rattle.sq_desk.specs.Calling.{CountsMade}
use Rattle.sq_desk.specs.Desks.{IsDesk}
use Rattle.sq_desk.specs.Tells.{IsOfClass, Tells, TellsAct, TellsAs, TellsClass, TellsLine, TellsReread}
use Rattle.sq_desk.proofs.EventLaws.{reconfigured_made}
use Rattle.sq_desk.proofs.NameLaws.{failed_name, started_name}
use Rattle.sq_desk.proofs.NextLaws.{IsNextBy, IsNextOf, IsNextOfAt, Replays, act_by, ask_by, close_by, died_by, entered_one, entered_some, failed_by, line_by, next_told, open_by, refused_at, reread_by, started_by, step_by, take_by}

stays : (a b : ℕ) → b ≡ a → min b count_limit ≡ min a count_limit
stays a b e = ap (λ n. min n count_limit) e

rises : (a b : ℕ) → b ≡ raised a → min a count_limit ≤ min b count_limit
rises a b e = grind arith

is_raised : (a b : ℕ) → b ≡ raised a → min b count_limit ≡ raised (min a count_limit)
is_raised a b e = grind arith

counted_once : (a b : ℕ) → b ≡ raised a
    → (min a count_limit ≤ min b count_limit) × (min b count_limit ≡ raised (min a count_limit))
counted_once a b e = (rises a b e, is_raised a b e)

-- what was answered where the call was made
answered : {A : Type 0} (tell : A → Told) (s : State) (now : ℕ) (event : Event) (r : Result A DeskFault)
    → IsNextOf tell s now event r → IfOk r (λ a. IsNextBy s now event (gives (tell a)))
answered tell s now event (Ok a) law = law
answered tell s now event (Err f) law = tt

answered_at : {A : Type 0} (tell : A → Told) (s : State) (now : ℕ) (event : ℕ → List ℕ → Event) (p : ClassId)
    (r : Result A DeskFault) → IsNextOfAt tell s now event p r
    → IfOk r (λ a. IsNextBy s now (event p.epoch (name_in s p)) (gives (tell a)))
answered_at tell s now event p (Ok a) law = law
answered_at tell s now event p (Err f) law = tt

-- the entry of a call, whose event is as P says
makes_told : (first : Beginning) {A : Type 0} (tell : A → Told) (said : Next) (moment : ℕ) (event : Event)
    (after : State) (P : Event → Type 0) (v w : DeskView) (r : Result A DeskFault) → Replays first v → OnOk r (P event)
    → IfOk r (λ a. IsNextBy (state_of v.engine) (max moment v.engine.latest) event (gives (tell a)))
    → Makes tell said (max moment v.engine.latest) event after v r w
    → Notes (Some first) moment tell P v.notes.history w.notes.history r
makes_told first tell said moment event after P v w (Ok a) d p law m =
    entered_one first (state_of v.engine) moment P (tell a) event v.notes.history w.notes.history (d m.going) p law
    (ap (λ z. z.history) m.notes)
makes_told first tell said moment event after P v w (Err fault.Stopped) d p law m = ap (λ z. z.history) m.notes
makes_told first tell said moment event after P v w (Err (fault.Engine refusal.WantOfMemory)) d p law m = absurd m
makes_told first tell said moment event after P v w (Err (fault.Engine r)) d p law m = ap (λ z. z.history) m.notes
makes_told first tell said moment event after P v w (Err fault.JournalFault) d p law m = ap (λ z. z.history) m.notes
makes_told first tell said moment event after P v w (Err fault.WantOfMemory) d p law m = ap (λ z. z.history) m.notes

-- the same where the answer is as R says
makes_told_as : (first : Beginning) {A : Type 0} (R : A → Told → Type 0) (tell : A → Told) (said : Next) (moment : ℕ)
    (event : Event) (after : State) (P : Event → Type 0) (v w : DeskView) (r : Result A DeskFault) → Replays first v
    → ((a : A) → R a (tell a)) → P event
    → IfOk r (λ a. IsNextBy (state_of v.engine) (max moment v.engine.latest) event (gives (tell a)))
    → Makes tell said (max moment v.engine.latest) event after v r w
    → NotesAs (Some first) moment R P v.notes.history w.notes.history r
makes_told_as first R tell said moment event after P v w (Ok a) d is p law m =
    entered_some first (state_of v.engine) moment (R a) P (tell a) event v.notes.history w.notes.history (d m.going)
    (is a) p law (ap (λ z. z.history) m.notes)
makes_told_as first R tell said moment event after P v w (Err fault.Stopped) d is p law m = ap (λ z. z.history) m.notes
makes_told_as first R tell said moment event after P v w (Err (fault.Engine refusal.WantOfMemory)) d is p law m =
    absurd m
makes_told_as first R tell said moment event after P v w (Err (fault.Engine r)) d is p law m =
    ap (λ z. z.history) m.notes
makes_told_as first R tell said moment event after P v w (Err fault.JournalFault) d is p law m =
    ap (λ z. z.history) m.notes
makes_told_as first R tell said moment event after P v w (Err fault.WantOfMemory) d is p law m =
    ap (λ z. z.history) m.notes

-- the refusal of a call
makes_refuses : (first : Beginning) {A : Type 0} (tell : A → Told) (said : Next) (moment : ℕ) (event : Event)
    (after : State) (v w : DeskView) (r : Result A DeskFault) → Replays first v
    → IsNextOf tell (state_of v.engine) (max moment v.engine.latest) event r
    → Makes tell said (max moment v.engine.latest) event after v r w
    → Refuses (Some first) moment event v.notes.history r
makes_refuses first tell said moment event after v w (Ok a) d law m = tt
makes_refuses first tell said moment event after v w (Err fault.Stopped) d law m = tt
makes_refuses first tell said moment event after v w (Err (fault.Engine refusal.WantOfMemory)) d law m = absurd m
makes_refuses first tell said moment event after v w (Err (fault.Engine r)) d law m =
    next_told first (state_of v.engine) moment event (refuses r) v.notes.history (d m.going) law
makes_refuses first tell said moment event after v w (Err fault.JournalFault) d law m = tt
makes_refuses first tell said moment event after v w (Err fault.WantOfMemory) d law m = tt

makes_refuses_at : (first : Beginning) {A : Type 0} (tell : A → Told) (said : Next) (moment : ℕ)
    (event : ℕ → List ℕ → Event) (p : ClassId) (after : State) (v w : DeskView) (r : Result A DeskFault)
    → Replays first v → IsNextOfAt tell (state_of v.engine) (max moment v.engine.latest) event p r
    → Makes tell said (max moment v.engine.latest) (event p.epoch (name_in (state_of v.engine) p)) after v r w
    → RefusesAt (Some first) moment (event p.epoch) p.epoch p.class v.notes.history r
makes_refuses_at first tell said moment event p after v w (Ok a) d law m = tt
makes_refuses_at first tell said moment event p after v w (Err fault.Stopped) d law m = tt
makes_refuses_at first tell said moment event p after v w (Err (fault.Engine refusal.WantOfMemory)) d law m = absurd m
makes_refuses_at first tell said moment event p after v w (Err (fault.Engine r)) d law m =
    refused_at first (state_of v.engine) moment event p r v.notes.history (d m.going) law
makes_refuses_at first tell said moment event p after v w (Err fault.JournalFault) d law m = tt
makes_refuses_at first tell said moment event p after v w (Err fault.WantOfMemory) d law m = tt

-- the count of refusals after a call
makes_refused : {A : Type 0} (tell : A → Told) (next : Next) (now : ℕ) (event : Event) (after : State) (v w : DeskView)
    (r : Result A DeskFault) → Makes tell next now event after v r w
    → CountsRefusal (min v.notes.refusals count_limit) (min w.notes.refusals count_limit) r
makes_refused tell next now event after v w (Ok a) m = stays _ _ (ap (λ z. z.refusals) m.notes)
makes_refused tell next now event after v w (Err fault.Stopped) m = counted_once _ _ (ap (λ z. z.refusals) m.notes)
makes_refused tell next now event after v w (Err (fault.Engine refusal.WantOfMemory)) m = absurd m
makes_refused tell next now event after v w (Err (fault.Engine r)) m = counted_once _ _ (ap (λ z. z.refusals) m.notes)
makes_refused tell next now event after v w (Err fault.JournalFault) m = counted_once _ _ (ap (λ z. z.refusals) m.notes)
makes_refused tell next now event after v w (Err fault.WantOfMemory) m = stays _ _ (ap (λ z. z.refusals) m.notes)

-- the count of reconfigurations after a call that is none
makes_made : {A : Type 0} (tell : A → Told) (next : Next) (now : ℕ) (event : Event) (after : State) (v w : DeskView)
    (r : Result A DeskFault) → Makes tell next now event after v r w
    → Some w.notes.made ≡ Some v.notes.made
makes_made tell next now event after v w (Ok a) m = ap (λ z. Some z.made) m.notes
makes_made tell next now event after v w (Err fault.Stopped) m = ap (λ z. Some z.made) m.notes
makes_made tell next now event after v w (Err (fault.Engine refusal.WantOfMemory)) m = absurd m
makes_made tell next now event after v w (Err (fault.Engine r)) m = ap (λ z. Some z.made) m.notes
makes_made tell next now event after v w (Err fault.JournalFault) m = ap (λ z. Some z.made) m.notes
makes_made tell next now event after v w (Err fault.WantOfMemory) m = ap (λ z. Some z.made) m.notes

-- whether the desk has stopped after a call
makes_stopped : {A : Type 0} (tell : A → Told) (next : Next) (now : ℕ) (event : Event) (after : State) (v w : DeskView)
    (r : Result A DeskFault) → Makes tell next now event after v r w → w.notes.stopped ≡ reports_stop r
makes_stopped tell next now event after v w (Ok a) m = ap (λ z. z.stopped) m.notes ∙ m.going
makes_stopped tell next now event after v w (Err fault.Stopped) m = ap (λ z. z.stopped) m.notes ∙ m.was
makes_stopped tell next now event after v w (Err (fault.Engine refusal.WantOfMemory)) m = absurd m
makes_stopped tell next now event after v w (Err (fault.Engine r)) m = ap (λ z. z.stopped) m.notes ∙ m.going
makes_stopped tell next now event after v w (Err fault.JournalFault) m = ap (λ z. z.stopped) m.notes
makes_stopped tell next now event after v w (Err fault.WantOfMemory) m = ap (λ z. z.stopped) m.notes ∙ m.going

-- a step is told with the name of the class
step_told : (s : State) (epoch : ℕ) (a : Stepped) → IsStepTold a (stepped_told s epoch a)
step_told s epoch (stepped.Took c) = (_, refl)
step_told s epoch (stepped.Waits q) = refl
step_told s epoch stepped.Done = refl

pub act_told : (s : State) (a : Act) → IsEventOf a (told_of_act s a)
act_told s (act.Stop k) = refl
act_told s (act.Send k q channel text) = refl
act_told s (act.Start e c) = (_, refl)

-- the same of an event that names a class
telling_class : {first : Beginning} {A : Type 0} (tell : A → Told) (said : Next) (moment : ℕ)
    (event : ℕ → List ℕ → Event) (p : ClassId) (after : State) (v w : DeskView) (r : Result A DeskFault)
    → Replays first v
    → OnOk r (IsNameOf (Some first) v.notes.history p.epoch p.class (name_in (state_of v.engine) p))
    → IsNextOfAt tell (state_of v.engine) (max moment v.engine.latest) event p r
    → Makes tell said (max moment v.engine.latest) (event p.epoch (name_in (state_of v.engine) p)) after v r w
    → TellsClass first moment tell (event p.epoch) p v w r
telling_class {first = first} tell said moment event p after v w r d named law m =
    let now = max moment v.engine.latest in
    let name = name_in (state_of v.engine) p in
    record {
      told = makes_told first tell said moment (event p.epoch name) after
          (IsOfClass first v.notes.history (event p.epoch) p)
          v w r d (of_class first v.notes.history (event p.epoch) p name r named)
          (answered_at tell (state_of v.engine) now event p r law) m;
      refuses = makes_refuses_at first tell said moment event p after v w r d law m;
      refused = makes_refused tell said now (event p.epoch name) after v w r m;
      stopped = makes_stopped tell said now (event p.epoch name) after v w r m;
      made = makes_made tell said now (event p.epoch name) after v w r m;
    }
  where
    of_class : {A : Type 0} (first : Beginning) (old : Option History) (e : List ℕ → Event) (p : ClassId)
        (name : List ℕ) (r : Result A DeskFault) → OnOk r (IsNameOf (Some first) old p.epoch p.class name)
        → OnOk r (IsOfClass first old e p (e name))
    of_class first old e p name (Ok a) named = (name, named, refl)
    of_class first old e p name (Err f) named = tt

on_ok : {A : Type 0} (P : Type 0) (r : Result A DeskFault) → P → OnOk r P
on_ok P (Ok a) p = p
on_ok P (Err f) p = tt

telling : {first : Beginning} {A : Type 0} (tell : A → Told) (said : Next) (moment : ℕ) (event : Event)
    (after : State) (v w : DeskView) (r : Result A DeskFault) → Replays first v
    → IsNextOf tell (state_of v.engine) (max moment v.engine.latest) event r
    → Makes tell said (max moment v.engine.latest) event after v r w → Tells first moment tell event v w r
telling {first = first} tell said moment event after v w r d law m =
    let now = max moment v.engine.latest in
    record {
      told = makes_told first tell said moment event after (λ e. e ≡ event) v w r d (on_ok (event ≡ event) r refl)
          (answered tell (state_of v.engine) now event r law) m;
      refuses = makes_refuses first tell said moment event after v w r d law m;
      refused = makes_refused tell said now event after v w r m;
      stopped = makes_stopped tell said now event after v w r m;
      made = makes_made tell said now event after v w r m;
    }

telling_as : {first : Beginning} {A : Type 0} (R : A → Told → Type 0) (tell : A → Told) (said : Next) (moment : ℕ)
    (event : Event) (after : State) (v w : DeskView) (r : Result A DeskFault) → Replays first v
    → ((a : A) → R a (tell a)) → IsNextOf tell (state_of v.engine) (max moment v.engine.latest) event r
    → Makes tell said (max moment v.engine.latest) event after v r w → TellsAs first moment R event v w r
telling_as {first = first} R tell said moment event after v w r d is law m =
    let now = max moment v.engine.latest in
    record {
      told = makes_told_as first R tell said moment event after (λ e. e ≡ event) v w r d is refl
          (answered tell (state_of v.engine) now event r law) m;
      refuses = makes_refuses first tell said moment event after v w r d law m;
      refused = makes_refused tell said now event after v w r m;
      made = makes_made tell said now event after v w r m;
    }

pub open_tells : {first : Beginning} (v w : DeskView) (c : ℕ) (addr : Address) (port moment : ℕ)
    (r : Result (Unit {0}) DeskFault) → Replays first v
    → Makes {A = Unit {0}} (λ x. told.Fine) (open_answer (state_of v.engine) c) (max moment v.engine.latest)
    (Open c addr port) (after_open c (record { addr = addr; port = port }) (max moment v.engine.latest)
    (state_of v.engine)) v r w
    → Tells {A = Unit {0}} first moment (λ x. told.Fine) (Open c addr port) v w r
open_tells v w c addr port moment r d m =
    let now = max moment v.engine.latest in
    let after = after_open c (record { addr = addr; port = port }) now (state_of v.engine) in
    telling {A = Unit {0}} (λ x. told.Fine) (open_answer (state_of v.engine) c) moment (Open c addr port) after v w r d
    (open_by v w c addr port now after r m) m

pub close_tells : {first : Beginning} (v w : DeskView) (c moment : ℕ) (r : Result (Unit {0}) DeskFault)
    → Replays first v
    → Makes {A = Unit {0}} (λ x. told.Fine) (close_answer (state_of v.engine) c) (max moment v.engine.latest) (Close c)
    (after_close c (max moment v.engine.latest) (state_of v.engine)) v r w
    → Tells {A = Unit {0}} first moment (λ x. told.Fine) (Close c) v w r
close_tells v w c moment r d m =
    let now = max moment v.engine.latest in
    let after = after_close c now (state_of v.engine) in
    telling {A = Unit {0}} (λ x. told.Fine) (close_answer (state_of v.engine) c) moment (Close c) after v w r d
    (close_by v w c now after r m) m

pub ask_tells : {first : Beginning} (v w : DeskView) (c : ℕ) (request : HttpRequest) (moment : ℕ)
    (r : Result ℕ DeskFault) → Replays first v → is_some (target_of request.method request.target) ≡ true
    → Makes {A = ℕ} told.Check (ask_answer (state_of v.engine) c) (max moment v.engine.latest)
    (Ask c request.method request.target request.fields)
    (after_ask (asked_in (state_of v.engine) (max moment v.engine.latest) c request.method request.target
    request.fields) (max moment v.engine.latest) (state_of v.engine)) v r w
    → Tells {A = ℕ} first moment told.Check (Ask c request.method request.target request.fields) v w r
ask_tells v w c request moment r d formed m =
    let now = max moment v.engine.latest in
    telling {A = ℕ} told.Check (ask_answer (state_of v.engine) c) moment
    (Ask c request.method request.target request.fields)
    (after_ask (asked_in (state_of v.engine) now c request.method request.target request.fields) now
    (state_of v.engine))
    v w r d (ask_by v w c request now r formed m) m

pub started_tells : {first : Beginning} (v w : DeskView) (p : ClassId) (moment : ℕ) (r : Result ℕ DeskFault)
    → IsDesk first v
    → Makes {A = ℕ} told.Proc (started_answer (state_of v.engine) p) (max moment v.engine.latest)
    (Started p.epoch (name_in (state_of v.engine) p))
    (after_started_at p (max moment v.engine.latest) (state_of v.engine)) v r w
    → TellsClass {A = ℕ} first moment told.Proc (Started p.epoch) p v w r
started_tells v w p moment r d m =
    let s = state_of v.engine in
    let now = max moment v.engine.latest in
    telling_class {A = ℕ} told.Proc (started_answer s p) moment Started p (after_started_at p now s) v w r d.replay
    (started_name v w p moment r d m) (started_by v w p now r m) m

pub failed_tells : {first : Beginning} (v w : DeskView) (p : ClassId) (moment : ℕ) (r : Result (Unit {0}) DeskFault)
    → IsDesk first v
    → Makes {A = Unit {0}} (λ x. told.Fine) (failed_answer (state_of v.engine) p) (max moment v.engine.latest)
    (StartFail p.epoch (name_in (state_of v.engine) p))
    (after_failed_at p (max moment v.engine.latest) (state_of v.engine)) v r w
    → TellsClass {A = Unit {0}} first moment (λ x. told.Fine) (StartFail p.epoch) p v w r
failed_tells v w p moment r d m =
    let s = state_of v.engine in
    let now = max moment v.engine.latest in
    telling_class {A = Unit {0}} (λ x. told.Fine) (failed_answer s p) moment StartFail p (after_failed_at p now s) v w r
    d.replay (failed_name v w p moment r d m) (failed_by v w p now r m) m

pub died_tells : {first : Beginning} (v w : DeskView) (k moment : ℕ) (r : Result (Unit {0}) DeskFault)
    → Replays first v
    → Makes {A = Unit {0}} (λ x. told.Fine) (died_answer (state_of v.engine) k) (max moment v.engine.latest) (Died k)
    (after_died k (max moment v.engine.latest) (state_of v.engine)) v r w
    → Tells {A = Unit {0}} first moment (λ x. told.Fine) (Died k) v w r
died_tells v w k moment r d m =
    let now = max moment v.engine.latest in
    let after = after_died k now (state_of v.engine) in
    telling {A = Unit {0}} (λ x. told.Fine) (died_answer (state_of v.engine) k) moment (Died k) after v w r d
    (died_by v w k now after r m) m

pub step_tells : {first : Beginning} (v w : DeskView) (n moment : ℕ) (r : Result Stepped DeskFault)
    → Replays first v
    → Makes {A = Stepped} (stepped_told (state_of v.engine) (epoch_of (state_of v.engine) n))
    (step_now (state_of v.engine) n (max moment v.engine.latest)) (max moment v.engine.latest) (Step n)
    (after_step_now (state_of v.engine) n (max moment v.engine.latest)) v r w
    → TellsAs {A = Stepped} first moment IsStepTold (Step n) v w r
step_tells v w n moment r d m =
    let s = state_of v.engine in
    let now = max moment v.engine.latest in
    telling_as {A = Stepped} IsStepTold (stepped_told s (epoch_of s n)) (step_now s n now) moment (Step n)
    (after_step_now s n now) v w r d (λ a. step_told s (epoch_of s n) a) (step_by v w n now r m) m

pub take_tells : {first : Beginning} (v w : DeskView) (n moment : ℕ) (r : Result Judged DeskFault)
    → Replays first v
    → Makes {A = Judged} (λ j. told.Judged j.epoch j.outcome) (take_answer (state_of v.engine) n)
    (max moment v.engine.latest) (Take n) (after_take n (max moment v.engine.latest) (state_of v.engine)) v r w
    → TellsAs {A = Judged} first moment IsTakeTold (Take n) v w r
take_tells v w n moment r d m =
    let now = max moment v.engine.latest in
    let after = after_take n now (state_of v.engine) in
    telling_as {A = Judged} IsTakeTold (λ j. told.Judged j.epoch j.outcome) (take_answer (state_of v.engine) n) moment
    (Take n) after v w r d (λ a. refl) (take_by v w n now after r m) m

-- a call for an act
acts_told : (first : Beginning) (v w : DeskView) (moment : ℕ) (r : Result (Option Act) DeskFault)
    → Replays first v → Acts (max moment v.engine.latest) v r w
    → IfOk r (λ a. IsActPromised (state_of v.engine) (max moment v.engine.latest) a (state_of w.engine))
    → MayAct (Some first) moment v.notes.history w.notes.history r
acts_told first v w moment (Ok None) d m p = (
  next_told first (state_of v.engine) moment event.Act nothing v.notes.history (d m.going) p,
  ap (λ z. z.history) m.notes,
)
acts_told first v w moment (Ok (Some a)) d m p =
    let s = state_of v.engine in
    let now = max moment v.engine.latest in
    entered_some first s moment (IsEventOf a) (λ e. e ≡ event.Act) (told_of_act s a) event.Act v.notes.history
    w.notes.history (d m.going) (act_told s a) refl (act_by s (state_of w.engine) now a p) (ap (λ z. z.history) m.notes)
acts_told first v w moment (Err fault.Stopped) d m p = ap (λ z. z.history) m.notes
acts_told first v w moment (Err (fault.Engine r)) d m p = absurd m
acts_told first v w moment (Err fault.JournalFault) d m p = ap (λ z. z.history) m.notes
acts_told first v w moment (Err fault.WantOfMemory) d m p = ap (λ z. z.history) m.notes

acts_refuses : (first : Beginning) (v w : DeskView) (moment now : ℕ) (r : Result (Option Act) DeskFault)
    → Acts now v r w → Refuses (Some first) moment event.Act v.notes.history r
acts_refuses first v w moment now (Ok a) m = tt
acts_refuses first v w moment now (Err fault.Stopped) m = tt
acts_refuses first v w moment now (Err (fault.Engine r)) m = absurd m
acts_refuses first v w moment now (Err fault.JournalFault) m = tt
acts_refuses first v w moment now (Err fault.WantOfMemory) m = tt

acts_refused : (v w : DeskView) (now : ℕ) (r : Result (Option Act) DeskFault) → Acts now v r w
    → CountsRefusal (min v.notes.refusals count_limit) (min w.notes.refusals count_limit) r
acts_refused v w now (Ok None) m = stays _ _ (ap (λ z. z.refusals) m.notes)
acts_refused v w now (Ok (Some a)) m = stays _ _ (ap (λ z. z.refusals) m.notes)
acts_refused v w now (Err fault.Stopped) m = counted_once _ _ (ap (λ z. z.refusals) m.notes)
acts_refused v w now (Err (fault.Engine r)) m = absurd m
acts_refused v w now (Err fault.JournalFault) m = counted_once _ _ (ap (λ z. z.refusals) m.notes)
acts_refused v w now (Err fault.WantOfMemory) m = stays _ _ (ap (λ z. z.refusals) m.notes)

acts_unrefused : (v w : DeskView) (now : ℕ) (r : Result (Option Act) DeskFault) → Acts now v r w → IsUnrefused r
acts_unrefused v w now (Ok a) m = tt
acts_unrefused v w now (Err fault.Stopped) m = tt
acts_unrefused v w now (Err (fault.Engine r)) m = m
acts_unrefused v w now (Err fault.JournalFault) m = tt
acts_unrefused v w now (Err fault.WantOfMemory) m = tt

acts_stopped : (v w : DeskView) (now : ℕ) (r : Result (Option Act) DeskFault) → Acts now v r w
    → w.notes.stopped ≡ reports_stop r
acts_stopped v w now (Ok None) m = ap (λ z. z.stopped) m.notes ∙ m.going
acts_stopped v w now (Ok (Some a)) m = ap (λ z. z.stopped) m.notes ∙ m.going
acts_stopped v w now (Err fault.Stopped) m = ap (λ z. z.stopped) m.notes ∙ m.was
acts_stopped v w now (Err (fault.Engine r)) m = absurd m
acts_stopped v w now (Err fault.JournalFault) m = ap (λ z. z.stopped) m.notes
acts_stopped v w now (Err fault.WantOfMemory) m = ap (λ z. z.stopped) m.notes ∙ m.going

acts_made : (v w : DeskView) (now : ℕ) (r : Result (Option Act) DeskFault) → Acts now v r w
    → Some w.notes.made ≡ Some v.notes.made
acts_made v w now (Ok None) m = ap (λ z. Some z.made) m.notes
acts_made v w now (Ok (Some a)) m = ap (λ z. Some z.made) m.notes
acts_made v w now (Err fault.Stopped) m = ap (λ z. Some z.made) m.notes
acts_made v w now (Err (fault.Engine r)) m = absurd m
acts_made v w now (Err fault.JournalFault) m = ap (λ z. Some z.made) m.notes
acts_made v w now (Err fault.WantOfMemory) m = ap (λ z. Some z.made) m.notes

acts_config : (v w : DeskView) (now : ℕ) (r : Result (Option Act) DeskFault) → Acts now v r w → (e : ℕ)
    → (state_of w.engine).config e ≡ (state_of v.engine).config e
acts_config v w now (Ok None) m e = ap (λ z. (state_of z).config e) m.engine
acts_config v w now (Ok (Some a)) m e = m.same.configs_are e ∙ acted_config (due_now v.engine) now (state_of v.engine) e
acts_config v w now (Err fault.Stopped) m e = ap (λ z. (state_of z).config e) m.engine
acts_config v w now (Err (fault.Engine r)) m e = absurd m
acts_config v w now (Err fault.JournalFault) m e = m.same.configs_are e
    ∙ acted_config (due_now v.engine) now (state_of v.engine) e
acts_config v w now (Err fault.WantOfMemory) m e = m.same.configs_are e

acts_programs : (v w : DeskView) (now : ℕ) (r : Result (Option Act) DeskFault) → Acts now v r w
    → ◌≡◌ {A = ℕ → ℕ → Option (Option (List (List ℕ)))}
    (λ e c. Some (option_map (λ x. x.words) (class_in (state_of w.engine) e c)))
    (λ e c. Some (option_map (λ x. x.words) (class_in (state_of v.engine) e c)))
acts_programs v w now r m =
    ap {B = ℕ → ℕ → Option (Option (List (List ℕ)))}
    (λ (f : ℕ → Option Configuration). λ e c. Some
    (option_map (λ x. x.words) (option_and_then (λ config. slice_get config.classes c) (f e))))
    (fun_ext (acts_config v w now r m))

-- a call for a line
reads_as : (v : DeskView) (now k : ℕ) (line : List ℕ) (said : Next) → line_answer (state_of v.engine) k line ≡ said
    → IsNextBy (state_of v.engine) now (event.Line k line) said
reads_as v now k line said is = λ configs h st late. line_by v k now line configs h st late ∙ is

-- the machine's word for a line is the desk's
same_word : (g : Got) → by_machine g ≡ got_told g
same_word (got.Reply q reply) = refl
same_word got.Bad = refl
same_word got.Stray = refl

reads_told : (first : Beginning) (v w : DeskView) (moment k : ℕ) (line : List ℕ) (r : Result Got DeskFault)
    → Replays first v → Reads (max moment v.engine.latest) k line v r w
    → Notes (Some first) moment got_told (IsLine k line) v.notes.history w.notes.history r
reads_told first v w moment k line (Ok g) d m =
    let now = max moment v.engine.latest in
    entered_one first (state_of v.engine) moment (IsLine k line) (got_told g) (event.Line k line) v.notes.history
    w.notes.history (d m.going) refl
    (reads_as v now k line (gives (got_told g)) (m.next_is ∙ ap gives (same_word g)))
    (ap (λ z. z.history) m.notes ∙ ap (λ (t : Told). with_entry (entry_at now (event.Line k line) t) v.notes.history)
    (same_word g))
reads_told first v w moment k line (Err fault.Stopped) d m = ap (λ z. z.history) m.notes
reads_told first v w moment k line (Err (fault.Engine refusal.WantOfMemory)) d m = absurd m
reads_told first v w moment k line (Err (fault.Engine r)) d m = ap (λ z. z.history) m.notes
reads_told first v w moment k line (Err fault.JournalFault) d m = ap (λ z. z.history) m.notes
reads_told first v w moment k line (Err fault.WantOfMemory) d m = ap (λ z. z.history) m.notes

reads_refuses : (first : Beginning) (v w : DeskView) (moment k : ℕ) (line : List ℕ) (r : Result Got DeskFault)
    → Replays first v → Reads (max moment v.engine.latest) k line v r w
    → Refuses (Some first) moment (event.Line k line) v.notes.history r
reads_refuses first v w moment k line (Ok g) d m = tt
reads_refuses first v w moment k line (Err fault.Stopped) d m = tt
reads_refuses first v w moment k line (Err (fault.Engine refusal.WantOfMemory)) d m = absurd m
reads_refuses first v w moment k line (Err (fault.Engine r)) d m =
    next_told first (state_of v.engine) moment (event.Line k line) (refuses r) v.notes.history (d m.going)
    (reads_as v (max moment v.engine.latest) k line (refuses r) m.next_is)
reads_refuses first v w moment k line (Err fault.JournalFault) d m = tt
reads_refuses first v w moment k line (Err fault.WantOfMemory) d m = tt

reads_refused : (v w : DeskView) (now k : ℕ) (line : List ℕ) (r : Result Got DeskFault) → Reads now k line v r w
    → CountsLine (min v.notes.refusals count_limit) (min w.notes.refusals count_limit) r
reads_refused v w now k line (Ok (got.Reply q reply)) m = stays _ _ (ap (λ z. z.refusals) m.notes)
reads_refused v w now k line (Ok got.Bad) m = counted_once _ _ (ap (λ z. z.refusals) m.notes)
reads_refused v w now k line (Ok got.Stray) m = counted_once _ _ (ap (λ z. z.refusals) m.notes)
reads_refused v w now k line (Err fault.Stopped) m = counted_once _ _ (ap (λ z. z.refusals) m.notes)
reads_refused v w now k line (Err (fault.Engine refusal.WantOfMemory)) m = absurd m
reads_refused v w now k line (Err (fault.Engine r)) m = counted_once _ _ (ap (λ z. z.refusals) m.notes)
reads_refused v w now k line (Err fault.JournalFault) m = counted_once _ _ (ap (λ z. z.refusals) m.notes)
reads_refused v w now k line (Err fault.WantOfMemory) m = stays _ _ (ap (λ z. z.refusals) m.notes)

reads_stopped : (v w : DeskView) (now k : ℕ) (line : List ℕ) (r : Result Got DeskFault) → Reads now k line v r w
    → w.notes.stopped ≡ reports_stop r
reads_stopped v w now k line (Ok g) m = ap (λ z. z.stopped) m.notes ∙ m.going
reads_stopped v w now k line (Err fault.Stopped) m = ap (λ z. z.stopped) m.notes ∙ m.was
reads_stopped v w now k line (Err (fault.Engine refusal.WantOfMemory)) m = absurd m
reads_stopped v w now k line (Err (fault.Engine r)) m = ap (λ z. z.stopped) m.notes ∙ m.going
reads_stopped v w now k line (Err fault.JournalFault) m = ap (λ z. z.stopped) m.notes
reads_stopped v w now k line (Err fault.WantOfMemory) m = ap (λ z. z.stopped) m.notes ∙ m.going

reads_made : (v w : DeskView) (now k : ℕ) (line : List ℕ) (r : Result Got DeskFault) → Reads now k line v r w
    → Some w.notes.made ≡ Some v.notes.made
reads_made v w now k line (Ok g) m = ap (λ z. Some z.made) m.notes
reads_made v w now k line (Err fault.Stopped) m = ap (λ z. Some z.made) m.notes
reads_made v w now k line (Err (fault.Engine refusal.WantOfMemory)) m = absurd m
reads_made v w now k line (Err (fault.Engine r)) m = ap (λ z. Some z.made) m.notes
reads_made v w now k line (Err fault.JournalFault) m = ap (λ z. Some z.made) m.notes
reads_made v w now k line (Err fault.WantOfMemory) m = ap (λ z. Some z.made) m.notes

-- a call for another configuration
rereads_as : (v : DeskView) (config : Configuration) (now : ℕ) (said : Next)
    → reconfigure_answer (state_of v.engine) ≡ said
    → IsNextBy (state_of v.engine) now (event.Reconfigure config.source) said
rereads_as v config now said is = λ configs h st late. reread_by v config now configs h st late ∙ is

rereads_told : (first : Beginning) (v w : DeskView) (config : Configuration) (moment : ℕ) (r : Result ℕ DeskFault)
    → Replays first v → Rereads (max moment v.engine.latest) config v r w
    → Notes (Some first) moment told.Epoch (IsReread config) v.notes.history w.notes.history r
rereads_told first v w config moment (Ok e) d m =
    entered_one first (state_of v.engine) moment (IsReread config) (told.Epoch e) (event.Reconfigure config.source)
    v.notes.history w.notes.history (d m.going) refl
    (rereads_as v config (max moment v.engine.latest) (gives (told.Epoch e)) m.next_is) (ap (λ z. z.history) m.notes)
rereads_told first v w config moment (Err fault.Stopped) d m = ap (λ z. z.history) m.notes
rereads_told first v w config moment (Err (fault.Engine refusal.WantOfMemory)) d m = absurd m
rereads_told first v w config moment (Err (fault.Engine r)) d m = ap (λ z. z.history) m.notes
rereads_told first v w config moment (Err fault.JournalFault) d m = ap (λ z. z.history) m.notes
rereads_told first v w config moment (Err fault.WantOfMemory) d m = ap (λ z. z.history) m.notes

rereads_refuses : (first : Beginning) (v w : DeskView) (config : Configuration) (moment : ℕ)
    (r : Result ℕ DeskFault) → Replays first v → Rereads (max moment v.engine.latest) config v r w
    → Refuses (Some first) moment (event.Reconfigure config.source) v.notes.history r
rereads_refuses first v w config moment (Ok e) d m = tt
rereads_refuses first v w config moment (Err fault.Stopped) d m = tt
rereads_refuses first v w config moment (Err (fault.Engine refusal.WantOfMemory)) d m = absurd m
rereads_refuses first v w config moment (Err (fault.Engine r)) d m =
    next_told first (state_of v.engine) moment (event.Reconfigure config.source) (refuses r) v.notes.history (d m.going)
    (rereads_as v config (max moment v.engine.latest) (refuses r) m.next_is)
rereads_refuses first v w config moment (Err fault.JournalFault) d m = tt
rereads_refuses first v w config moment (Err fault.WantOfMemory) d m = tt

rereads_refused : (v w : DeskView) (config : Configuration) (now : ℕ) (r : Result ℕ DeskFault)
    → Rereads now config v r w
    → CountsRefusal (min v.notes.refusals count_limit) (min w.notes.refusals count_limit) r
rereads_refused v w config now (Ok e) m = stays _ _ (ap (λ z. z.refusals) m.notes)
rereads_refused v w config now (Err fault.Stopped) m = counted_once _ _ (ap (λ z. z.refusals) m.notes)
rereads_refused v w config now (Err (fault.Engine refusal.WantOfMemory)) m = absurd m
rereads_refused v w config now (Err (fault.Engine r)) m = counted_once _ _ (ap (λ z. z.refusals) m.notes)
rereads_refused v w config now (Err fault.JournalFault) m = counted_once _ _ (ap (λ z. z.refusals) m.notes)
rereads_refused v w config now (Err fault.WantOfMemory) m = stays _ _ (ap (λ z. z.refusals) m.notes)

made_counts : (before now : ℕ) (r : Result ℕ DeskFault) → CountsMade before r now
    → CountsReconfigured (Some before) (Some now) r
made_counts before now (Ok e) c = (ap (λ n. Some n) c.0, c.1 ∙ ap (λ (n : ℕ). n + 1) c.0)
made_counts before now (Err f) c = ap (λ n. Some n) c

always_told : (before : ℕ) (r : Result ℕ DeskFault) → OnOk r (IsSome (Some before))
always_told before (Ok e) = refl
always_told before (Err f) = tt

pub act_tells : {first : Beginning} (v w : DeskView) (moment : ℕ) (r : Result (Option Act) DeskFault) → Replays first v
    → Acts (max moment v.engine.latest) v r w
    → IfOk r (λ a. IsActPromised (state_of v.engine) (max moment v.engine.latest) a (state_of w.engine))
    → TellsAct first moment v w r
act_tells {first = first} v w moment r d m p =
    let now = max moment v.engine.latest in
    record {
      told = acts_told first v w moment r d m p;
      refuses = acts_refuses first v w moment now r m;
      unrefused = acts_unrefused v w now r m;
      refused = acts_refused v w now r m;
      stopped = acts_stopped v w now r m;
      made = acts_made v w now r m;
      programs = acts_programs v w now r m;
    }

pub line_tells : {first : Beginning} (v w : DeskView) (moment k : ℕ) (line : List ℕ) (r : Result Got DeskFault)
    → Replays first v → Reads (max moment v.engine.latest) k line v r w → TellsLine first moment k line v w r
line_tells {first = first} v w moment k line r d m =
    let now = max moment v.engine.latest in
    record {
      told = reads_told first v w moment k line r d m;
      refuses = reads_refuses first v w moment k line r d m;
      refused = reads_refused v w now k line r m;
      stopped = reads_stopped v w now k line r m;
      made = reads_made v w now k line r m;
    }

pub reread_tells : {first : Beginning} (v w : DeskView) (config : Configuration) (moment : ℕ) (r : Result ℕ DeskFault)
    → IsDesk first v → Rereads (max moment v.engine.latest) config v r w → TellsReread first config moment v w r
reread_tells {first = first} v w config moment r d m =
    let now = max moment v.engine.latest in
    record {
      told = rereads_told first v w config moment r d.replay m;
      refuses = rereads_refuses first v w config moment r d.replay m;
      refused = rereads_refused v w config now r m;
      made = made_counts v.notes.made w.notes.made r (reconfigured_made v w config now r d m);
      counting = always_told v.notes.made r;
    }
