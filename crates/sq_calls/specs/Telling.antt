-- What a desk's call adds to the journal, and what it counts.
use Rattle.std.specs.Prelude.{◌≡◌, ℕ, ◌+◌, ◌≤◌, max, Bool, true, false, List, ◌∷◌, Some, None, IfSome, Result, Ok, Err}
use Rattle.std.specs.declared.option.Option.{Option}
use Rattle.sq_outside.specs.Causes.{raised}
use Rattle.sq_base.specs.Addresses.{Address}
use Rattle.sq_base.specs.Requests.{HttpRequest}
use Rattle.sq_machine.specs.declared.entries.Event.{Event}
use Rattle.sq_machine.specs.declared.entries.Event.TheVariants as event
use Rattle.sq_machine.specs.declared.entries.Told.{Told}
use Rattle.sq_machine.specs.declared.entries.Told.TheVariants as told
use Rattle.sq_machine.specs.declared.refusals.Refusal.{Refusal}
use Rattle.sq_machine.specs.declared.refusals.Refusal.TheVariants as refusal
use Rattle.sq_checks.specs.Records.{Judged}
use Rattle.sq_model.specs.declared.stepping.Stepped.{Stepped}
use Rattle.sq_model.specs.declared.stepping.Stepped.TheVariants as stepped
use Rattle.sq_rules.specs.Classes.{Class}
use Rattle.sq_rules.specs.Configurations.{Configuration}
use Rattle.sq_machine.specs.Entries.{History, entry_at}
use Rattle.sq_machine.specs.Epochs.{class_at}
use Rattle.sq_machine.specs.Machine.{next}
use Rattle.sq_machine.specs.Next.{Next, gives, nothing, refuses}
use Rattle.sq_machine.specs.Marking.{marked}
use Rattle.sq_machine.specs.Readings.{latest}
use Rattle.sq_channel.specs.declared.replies.Got.{Got}
use Rattle.sq_channel.specs.declared.replies.Got.TheVariants as got
use Rattle.sq_machine.specs.declared.acts.Act.{Act}
use Rattle.sq_machine.specs.declared.acts.Act.TheVariants as act
use Rattle.sq_calls.specs.declared.faults.DeskFault.{DeskFault}
use Rattle.sq_calls.specs.declared.faults.DeskFault.TheVariants as fault
use Rattle.sq_calls.specs.Legality.{Beginning, IsLegalFrom, IsNameOf, configs_over}

-- over the configurations of the history, which is legal, this is what the machine answers next to
-- the event at a moment
pub record HasNext (first : Option Beginning) (h : History) (moment : ℕ) (e : Event)
    (answer : Next) : Type 0 where
  pub over : IsLegalFrom first h
  pub next_is : next (configs_over over) (marked (configs_over over) h) moment e ≡ answer

-- the moment of a call's entry: its own, or the latest so far where that is later
abbrev pub noted_at : ℕ → History → ℕ
noted_at now h = max now (latest h)

-- the event was entered at a call's moment: its answer is the machine's next, and the journal has
-- one entry more
pub record Enters (first : Option Beginning) (now : ℕ) (h : History) (e : Event) (answer : Told)
    (new : Option History) : Type 0 where
  pub next : HasNext first h (noted_at now h) e (gives answer)
  pub entry : new ≡ Some (entry_at (noted_at now h) e answer ∷ h)

-- where the journal is told, an event of which P holds was entered with this answer
abbrev pub AddsOne : Option Beginning → ℕ → (Event → Type 0) → Told → Option History
    → Option History → Type 0
AddsOne first now P answer None new = new ≡ None
AddsOne first now P answer (Some h) new = (e : Event) × P e × Enters first now h e answer new

-- the same, with an answer of which R holds
abbrev pub AddsSome : Option Beginning → ℕ → (Told → Type 0) → (Event → Type 0) → Option History
    → Option History → Type 0
AddsSome first now R P None new = new ≡ None
AddsSome first now R P (Some h) new = (answer : Told) × R answer × (e : Event) × P e
    × Enters first now h e answer new

-- a call that was made at this moment added its entry; one that was not added nothing
abbrev pub Notes : {A : Type 0} → Option Beginning → ℕ → (A → Told) → (Event → Type 0)
    → Option History → Option History → Result A DeskFault → Type 0
Notes first now told P old new (Ok a) = AddsOne first now P (told a) old new
Notes first now told P old new (Err f) = new ≡ old

-- a call that was made at this moment added its entry, whose answer tells what it gave; one that
-- was not added nothing
abbrev pub NotesAs : {A : Type 0} → Option Beginning → ℕ → (A → Told → Type 0) → (Event → Type 0)
    → Option History → Option History → Result A DeskFault → Type 0
NotesAs first now R P old new (Ok a) = AddsSome first now (R a) P old new
NotesAs first now R P old new (Err f) = new ≡ old

-- where the journal is told, a refusal of the event is the machine's next; want of memory is none
abbrev pub Refuses : {A : Type 0} → Option Beginning → ℕ → Event → Option History
    → Result A DeskFault → Type 0
Refuses first now e old (Err (fault.Engine refusal.WantOfMemory)) = IfSome old (λ h. ⊥)
Refuses first now e old (Err (fault.Engine r)) = IfSome old
    (λ h. HasNext first h (noted_at now h) e (refuses r))
Refuses first now e old r = Unit {0}

-- the same of an event that names the class at a place of an epoch, where there is that class
pub record RefusesClass (first : Option Beginning) (h : History) (moment : ℕ)
    (e : List ℕ → Event) (epoch place : ℕ) (r : Refusal) : Type 0 where
  pub over : IsLegalFrom first h
  pub next_is : (class : Class) → class_at (configs_over over) epoch place ≡ Some class
      → next (configs_over over) (marked (configs_over over) h) moment (e class.name) ≡ refuses r

abbrev pub RefusesAt : {A : Type 0} → Option Beginning → ℕ → (List ℕ → Event) → ℕ → ℕ
    → Option History → Result A DeskFault → Type 0
RefusesAt first now e epoch place old (Err (fault.Engine refusal.WantOfMemory)) = IfSome old
    (λ h. ⊥)
RefusesAt first now e epoch place old (Err (fault.Engine r)) = IfSome old
    (λ h. RefusesClass first h (noted_at now h) e epoch place r)
RefusesAt first now e epoch place old r = Unit {0}

-- whether the call reported that the desk has stopped, or that its journal failed
abbrev pub reports_stop : {A : Type 0} → Result A DeskFault → Bool
reports_stop (Err fault.Stopped) = true
reports_stop (Err fault.JournalFault) = true
reports_stop r = false

-- the machine refused nothing
abbrev pub IsUnrefused : {A : Type 0} → Result A DeskFault → Type 0
IsUnrefused (Err (fault.Engine r)) = ⊥
IsUnrefused r = Unit {0}

-- the count rose by one where the call was refused or its note failed, up to its limit, and stayed
-- otherwise
abbrev pub CountsRefusal : {A : Type 0} → ℕ → ℕ → Result A DeskFault → Type 0
CountsRefusal before now (Ok a) = now ≡ before
CountsRefusal before now (Err fault.WantOfMemory) = now ≡ before
CountsRefusal before now (Err f) = (before ≤ now) × (now ≡ raised before)

-- the same of a line, where one that was bad or stray counts as a refusal
abbrev pub CountsLine : ℕ → ℕ → Result Got DeskFault → Type 0
CountsLine before now (Ok (got.Reply question reply)) = now ≡ before
CountsLine before now (Ok got.Bad) = (before ≤ now) × (now ≡ raised before)
CountsLine before now (Ok got.Stray) = (before ≤ now) × (now ≡ raised before)
CountsLine before now (Err fault.WantOfMemory) = now ≡ before
CountsLine before now (Err f) = (before ≤ now) × (now ≡ raised before)

-- the events of calls
abbrev pub IsOpening : ℕ → Address → ℕ → Event → Type 0
IsOpening conn addr port e = e ≡ event.Open conn addr port

abbrev pub IsClosing : ℕ → Event → Type 0
IsClosing conn e = e ≡ event.Close conn

abbrev pub IsAsking : ℕ → HttpRequest → Event → Type 0
IsAsking conn r e = e ≡ event.Ask conn r.method r.target r.fields

abbrev pub IsStep : ℕ → Event → Type 0
IsStep check e = e ≡ event.Step check

abbrev pub IsTaking : ℕ → Event → Type 0
IsTaking check e = e ≡ event.Take check

-- a start of the class at a place of an epoch; the name is the one that this class has over the
-- journal before
abbrev pub IsStarted : Option Beginning → Option History → ℕ → ℕ → Event → Type 0
IsStarted first old epoch class e = (name : List ℕ) × IsNameOf first old epoch class name
    × (e ≡ event.Started epoch name)

abbrev pub IsFailed : Option Beginning → Option History → ℕ → ℕ → Event → Type 0
IsFailed first old epoch class e = (name : List ℕ) × IsNameOf first old epoch class name
    × (e ≡ event.StartFail epoch name)

abbrev pub IsDead : ℕ → Event → Type 0
IsDead proc e = e ≡ event.Died proc

abbrev pub IsLine : ℕ → List ℕ → Event → Type 0
IsLine proc bytes e = e ≡ event.Line proc bytes

abbrev pub IsReread : Configuration → Event → Type 0
IsReread setup e = e ≡ event.Reconfigure setup.source

-- how what a line gave is told
abbrev pub got_told : Got → Told
got_told (got.Reply q r) = told.Reply q r.word
got_told got.Bad = told.Bad
got_told got.Stray = told.Stray

-- how a step is told, with the name of the class
abbrev pub IsStepTold : Stepped → Told → Type 0
IsStepTold (stepped.Took class) answer = (name : List ℕ) × (answer ≡ told.Took name)
IsStepTold (stepped.Waits question) answer = answer ≡ told.Waits question
IsStepTold stepped.Done answer = answer ≡ told.Done

-- how a record is told
abbrev pub IsTakeTold : Judged → Told → Type 0
IsTakeTold r answer = answer ≡ told.Judged r.epoch r.outcome

-- how an act is told
abbrev pub IsEventOf : Act → Told → Type 0
IsEventOf (act.Stop proc) answer = answer ≡ told.Stop proc
IsEventOf (act.Send proc question channel text) answer = answer
    ≡ told.Send proc question channel text
IsEventOf (act.Start epoch class) answer = (name : List ℕ) × (answer ≡ told.Start epoch name)

-- where the journal is told, the act that was given is the machine's next at this moment, and was
-- noted as it is told; where none is due, or the call was not made, nothing was noted
abbrev pub MayAct : Option Beginning → ℕ → Option History → Option History
    → Result (Option Act) DeskFault → Type 0
MayAct first now old new (Ok (Some a)) = AddsSome first now (IsEventOf a) (λ e. e ≡ event.Act)
    old new
MayAct first now old new (Ok None) = IfSome old
    (λ h. HasNext first h (noted_at now h) event.Act nothing) × (new ≡ old)
MayAct first now old new (Err f) = new ≡ old

-- a reconfiguration that was made is counted, and its epoch is one above the count; one that was
-- not made leaves the count
abbrev pub CountsReconfigured : Option ℕ → Option ℕ → Result ℕ DeskFault → Type 0
CountsReconfigured old new (Ok e) = IfSome old (λ m. (new ≡ Some (m + 1)) × (e ≡ m + 1 + 1))
CountsReconfigured old new (Err f) = new ≡ old
