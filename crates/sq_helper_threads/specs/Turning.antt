-- What a turn of a pump does.
use Rattle.std.specs.Prelude.{◌≡◌, ◌⊎◌, ℕ, ◌≤◌, List, [], ◌∷◌, ◌++◌, Bool, true, false, Some, None, IfSome, Result, Ok, Err}
use Rattle.std.specs.Arc.{arc_value}
use Rattle.std.specs.declared.option.Option.{Option}
use Rattle.sq_base.specs.Replies.{question_text}
use Rattle.sq_outside.specs.Causes.{Rose}
use Rattle.sq_outside.specs.Dials.{IsClosed, IsEmpty, IsOpen}
use Rattle.sq_outside.specs.World.{StartsMore}
use Rattle.sq_keeper.specs.declared.pipes.Pipe.{Pipe}
use Rattle.sq_keeper.specs.Pipes.{Asks, Fails, HalfTells, Shuts, Changes, open_ones, pipe_place}
use Rattle.sq_machine.specs.declared.acts.Act.{Act}
use Rattle.sq_machine.specs.declared.acts.Act.TheVariants as act
use Rattle.sq_calls.specs.Legality.{Beginning}
use Rattle.sq_calls.specs.Telling.{AddsOne, IsDead, IsFailed, IsStarted, MayAct, Refuses, RefusesAt, reports_stop}
use Rattle.sq_calls.specs.declared.faults.DeskFault.{DeskFault}
use Rattle.sq_calls.specs.declared.faults.DeskFault.TheVariants as fault
use Rattle.sq_machine.specs.declared.entries.Event.TheVariants as event
use Rattle.sq_machine.specs.declared.refusals.Refusal.{Refusal}
use Rattle.sq_machine.specs.Entries.{History}
use Rattle.sq_machine.specs.declared.entries.Told.TheVariants as answer
use Rattle.sq_rules.specs.Configurations.{Configuration}
use Rattle.sq_rules.specs.Lookups.{is_lookup_program}
use Rattle.sq_helper_threads.specs.Pumps.{Configs, Programs, PumpStep, PumpTells, PumpView}
use Rattle.sq_helper_threads.specs.declared.halves.AskerOut.{AskerOut}
use Rattle.sq_helper_threads.specs.declared.turns.Left.{Left}
use Rattle.sq_helper_threads.specs.declared.turns.Left.TheVariants as left
use Rattle.sq_helper_threads.specs.declared.turns.Turn.{Turn}
use Rattle.sq_helper_threads.specs.declared.turns.Turn.TheVariants as turn

-- the act of which something was left
abbrev pub act_of : {P Q A : Type 0} → Left P Q A → Act
act_of (left.Whole act) = act
act_of (left.Failed epoch class) = act.Start epoch class
act_of (left.Started epoch class from to) = act.Start epoch class
act_of (left.Asked epoch class from to) = act.Start epoch class
act_of (left.Died proc act) = act

-- the entry that is still to be noted was noted at this moment
abbrev pub AddsEntryOf : {P Q A : Type 0} → Left P Q A → Option Beginning → ℕ → Option History
    → Option History → Type 0
AddsEntryOf (left.Whole act) first moment old new = ⊥
AddsEntryOf (left.Failed epoch class) first moment old new =
    AddsOne first moment (IsFailed first old epoch class) answer.Fine old new
AddsEntryOf (left.Started epoch class from to) first moment old new = (proc : ℕ)
    × AddsOne first moment (IsStarted first old epoch class) (answer.Proc proc) old new
AddsEntryOf (left.Asked epoch class from to) first moment old new = (proc : ℕ)
    × AddsOne first moment (IsStarted first old epoch class) (answer.Proc proc) old new
AddsEntryOf (left.Died proc act) first moment old new =
    AddsOne first moment (IsDead proc) answer.Fine old new

-- where the journal is told, the machine refuses at this moment the very event whose entry is still
-- to be noted
abbrev pub RefusesEntryOf : {P Q A : Type 0} → Left P Q A → Option Beginning → ℕ → Option History
    → Type 0
RefusesEntryOf (left.Whole act) first moment told = ⊥
RefusesEntryOf (left.Failed epoch class) first moment told = (why : Refusal)
    × RefusesAt {A = Unit {0}} first moment (λ name. event.StartFail epoch name) epoch class told
    (Err (fault.Engine why))
RefusesEntryOf (left.Started epoch class from to) first moment told = (why : Refusal)
    × RefusesAt {A = ℕ} first moment (λ name. event.Started epoch name) epoch class told
    (Err (fault.Engine why))
RefusesEntryOf (left.Asked epoch class from to) first moment told = (why : Refusal)
    × RefusesAt {A = ℕ} first moment (λ name. event.Started epoch name) epoch class told
    (Err (fault.Engine why))
RefusesEntryOf (left.Died proc act) first moment told = (why : Refusal)
    × Refuses {A = Unit {0}} first moment (event.Died proc) told (Err (fault.Engine why))

-- whether the desk has stopped is what the call reported; without memory it has not stopped since
abbrev pub TellsStop : {A : Type 0} → Bool → Bool → Result A DeskFault → Type 0
TellsStop before now (Err fault.WantOfMemory) = now ≡ true → before ≡ true
TellsStop before now r = now ≡ reports_stop r

-- The entry was noted at this moment, or the machine refuses this very event, and the act counts as
-- done; or the desk reported that it has stopped or that its journal failed; or there was no
-- memory, nothing was noted or refused, and the entry is left.
abbrev pub Reports : {P Q R D : Type 0} → Left P Q (AskerOut R) → ℕ → Option History → ℕ → Bool
    → Turn → PumpView P Q R D → Type 0
Reports rest moment told refused stopped (turn.Acted act) now =
    (act ≡ act_of rest) × (now.left ≡ None)
    × (AddsEntryOf rest now.first moment told now.told
    ⊎ ((now.told ≡ told) × Rose refused now.refused × RefusesEntryOf rest now.first moment told))
    × (now.stopped ≡ false)
Reports rest moment told refused stopped turn.Ended now =
    (now.told ≡ told) × Rose refused now.refused × (now.left ≡ None) × (now.stopped ≡ true)
Reports rest moment told refused stopped turn.WantOfMemory now =
    (now.told ≡ told) × (now.left ≡ Some rest) × (now.refused ≡ refused)
    × (now.stopped ≡ true → stopped ≡ true)
Reports rest moment told refused stopped turn.Idle now = ⊥

-- nothing of the spawner, and nothing of the halves, changed
pub record SameSpawner {P Q R D : Type 0} (before now : PumpView P Q R D) : Type 0 where
  pub starts : now.starts ≡ before.starts
  pub faults : now.faults ≡ before.faults

pub record SameHalves {P Q R D : Type 0} (before now : PumpView P Q R D) : Type 0 where
  pub pipes : now.pipes ≡ before.pipes
  pub readers : now.readers ≡ before.readers
  pub asking : now.asking ≡ before.asking

-- the half of a process that is written to was taken up
abbrev pub AddsPipe : {P Q R D : Type 0} → ℕ → Q → PumpView P Q R D → PumpView P Q R D → Type 0
AddsPipe proc to before now =
    now.pipes ≡ before.pipes ++ record { proc = proc; to = to; closed = false } ∷ []

-- of the desk: with what it began, and its counts; that of refusals never falls, and no
-- reconfiguration was made
pub record PumpCounts {P Q R D : Type 0} (before now : PumpView P Q R D) : Type 0 where
  pub first : now.first ≡ before.first
  pub later : before.refused ≤ now.refused
  pub made : now.made ≡ before.made

-- a process was noted as started at the step's moment, which has this number
abbrev pub NotesStart : {P Q R D : Type 0} → ℕ → ℕ → ℕ → PumpStep P Q R D → Type 0
NotesStart epoch class proc step = AddsOne step.before.first step.moment
    (IsStarted step.before.first step.before.told epoch class) (answer.Proc proc)
    step.before.told step.now.told

-- No start was noted: the desk refused it, and the machine refuses this very event where the
-- journal is told; or the desk reported that it has stopped; or there was no memory.
abbrev pub NotesNoStart : {P Q R D : Type 0} → ℕ → ℕ → PumpStep P Q R D → Type 0
NotesNoStart epoch class step = (step.now.told ≡ step.before.told)
    × (((why : Refusal) × (step.result ≡ turn.Acted (act.Start epoch class))
    × Rose step.before.refused step.now.refused
    × RefusesAt {A = ℕ} step.before.first step.moment (λ name. event.Started epoch name) epoch class
    step.before.told (Err (fault.Engine why)))
    ⊎ ((step.result ≡ turn.Ended) × Rose step.before.refused step.now.refused)
    ⊎ ((step.result ≡ turn.WantOfMemory) × (step.now.refused ≡ step.before.refused)))

-- a half was closed, and nothing was written to it
abbrev pub IsClosedHalf : {Q : Type 0} → HalfTells Q → Q → Q → Type 0
IsClosedHalf halves to shut = IsClosed (halves.closed shut)
    × (halves.contents shut ≡ halves.contents to) × (halves.faults to ≤ halves.faults shut)

-- a half that is written to and was not taken up was closed, unless it is left
abbrev pub ClosesUnkept : {Q : Type 0} → HalfTells Q → Q → Turn → Type 0
ClosesUnkept halves to turn.WantOfMemory = Unit {0}
ClosesUnkept {Q = Q} halves to result = (shut : Q) × IsClosedHalf halves to shut

-- The process was noted as started, none was refused, and both its halves were taken up with its
-- number, the one that is read with the step's moment, too; or no start was noted, and neither was,
-- and the one that is written to was closed, unless there was no memory.
abbrev pub IsAdmitted : {P Q R D : Type 0} → HalfTells Q → ℕ → ℕ → P → Q → PumpStep P Q R D
    → Type 0
IsAdmitted halves epoch class from to step =
    ((proc : ℕ) × (step.result ≡ turn.Acted (act.Start epoch class))
    × (step.now.refused ≡ step.before.refused)
    × NotesStart epoch class proc step × AddsPipe proc to step.before step.now
    × (step.now.readers ≡ step.before.readers
    ++ record { proc = proc; since = step.moment; from = from } ∷ [])
    × (step.now.asking ≡ step.before.asking))
    ⊎ (NotesNoStart epoch class step × SameHalves step.before step.now
    × ClosesUnkept halves to step.result)

-- The process of a thread that answers look-ups was noted as started, none was refused, and both
-- its halves were taken up with its number, the one that is read with the step's moment, too; or no
-- start was noted, and neither was.
abbrev pub IsTakenUp : {P Q R D : Type 0} → ℕ → ℕ → AskerOut R → Q → PumpStep P Q R D → Type 0
IsTakenUp epoch class from to step =
    ((proc : ℕ) × (step.result ≡ turn.Acted (act.Start epoch class))
    × (step.now.refused ≡ step.before.refused)
    × NotesStart epoch class proc step × AddsPipe proc to step.before step.now
    × (step.now.readers ≡ step.before.readers)
    × (step.now.asking ≡ step.before.asking
    ++ record { proc = proc; since = step.moment; from = from } ∷ []))
    ⊎ (NotesNoStart epoch class step × SameHalves step.before step.now)

-- nothing but the halves that are written to changed
pub record SameButPipes {P Q R D : Type 0} (before now : PumpView P Q R D) : Type 0 where
  pub spawner : SameSpawner before now
  pub readers : now.readers ≡ before.readers
  pub asking : now.asking ≡ before.asking
  pub first : now.first ≡ before.first
  pub told : now.told ≡ before.told
  pub refused : now.refused ≡ before.refused
  pub stopped : now.stopped ≡ before.stopped
  pub made : now.made ≡ before.made
  pub left : now.left ≡ None

-- the entry that is still to be noted is reported in this turn
abbrev pub ReportsRest : {P Q R D : Type 0} → Left P Q (AskerOut R) → PumpStep P Q R D → Type 0
ReportsRest rest step =
    Reports rest step.moment step.before.told step.before.refused step.before.stopped step.result
    step.now

-- a half was closed; the line was written to one; or a write of it failed
abbrev pub IsShut : {Q : Type 0} → HalfTells Q → Pipe Q → Pipe Q → Type 0
IsShut halves = Shuts halves.contents halves.faults halves.closed

abbrev pub IsAsked : {Q : Type 0} → HalfTells Q → List ℕ → Pipe Q → Pipe Q → Type 0
IsAsked halves = Asks halves.contents halves.faults

abbrev pub HasFailed : {Q : Type 0} → HalfTells Q → List ℕ → Pipe Q → Pipe Q → Type 0
HasFailed halves = Fails halves.contents halves.faults halves.closed

-- the half of the process was closed and kept, where there is one; else nothing changed
abbrev pub IsStopping : {P Q R D : Type 0} → HalfTells Q → ℕ → PumpView P Q R D → Turn
    → PumpView P Q R D → Type 0
IsStopping halves proc before result now =
    (result ≡ turn.Acted (act.Stop proc)) × SameButPipes before now
    × (Changes proc (IsShut halves) before.pipes now.pipes
    ⊎ ((pipe_place proc before.pipes ≡ None) × (now.pipes ≡ before.pipes)))

-- The question's line was written to the half of the process, or there is none; or the write
-- failed, the half was closed, and the death is reported.
abbrev pub IsSending : {P Q R D : Type 0} → HalfTells Q → ℕ → ℕ → Option ℕ → List ℕ
    → PumpStep P Q R D → Type 0
IsSending halves proc question channel text step =
    ((step.result ≡ turn.Acted (act.Send proc question channel text))
    × SameButPipes step.before step.now
    × (Changes proc (IsAsked halves (question_text channel text)) step.before.pipes step.now.pipes
    ⊎ ((pipe_place proc step.before.pipes ≡ None) × (step.now.pipes ≡ step.before.pipes))))
    ⊎ (Changes proc (HasFailed halves (question_text channel text)) step.before.pipes step.now.pipes
    × SameSpawner step.before step.now × (step.now.readers ≡ step.before.readers)
    × (step.now.asking ≡ step.before.asking)
    × ReportsRest (left.Died proc (act.Send proc question channel text)) step)

-- what a start that was made gave: nothing was written to the one half, and it is open; no call of
-- either failed
pub record IsFresh {P Q : Type 0} (read_faults : P → ℕ) (halves : HalfTells Q) (from : P) (to : Q)
    : Type 0 where
  pub empty : IsEmpty (halves.contents to)
  pub is_open : IsOpen (halves.closed to)
  pub from_fresh : read_faults from ≡ 0
  pub to_fresh : halves.faults to ≡ 0

-- with those of the halves alone that were not closed
abbrev pub swept : {P Q R D : Type 0} → PumpView P Q R D → PumpView P Q R D
swept pump = record pump { pipes = open_ones pump.pipes }

-- what is seen of a pump that had let go of those first
abbrev pub behind_sweep : {P Q R D : Type 0} → PumpStep P Q R D → PumpStep P Q R D
behind_sweep step = record step { before = swept step.before }

-- the half of the process was closed, where there is one, and those that were closed are held no
-- more
abbrev pub LetsGo : {Q : Type 0} → HalfTells Q → ℕ → List (Pipe Q) → List (Pipe Q) → Type 0
LetsGo {Q = Q} halves proc old new =
    (shut : List (Pipe Q)) ×
    (Changes proc (IsShut halves) old shut
    ⊎ ((pipe_place proc old ≡ None) × (shut ≡ old))) × (new ≡ open_ones shut)

-- where the words of the class at a place of an epoch are told, they are these, or there is no such
-- class
abbrev pub IsProgram : {P Q R D : Type 0} → Programs D → PumpView P Q R D → ℕ → ℕ
    → Option (List (List ℕ)) → Type 0
IsProgram programs pump epoch class words =
    IfSome (programs pump.desk epoch class) (λ told. words ≡ told)

-- where the configuration of an epoch is told, it is this one
abbrev pub IsConfigOf : {P Q R D : Type 0} → Configs D → PumpView P Q R D → ℕ → Configuration
    → Type 0
IsConfigOf configs pump epoch config =
    IfSome (configs pump.desk epoch) (λ told. told ≡ Some config)

-- There is no memory, and nothing was done; or, while nothing was spawned, a process was reported
-- and taken up, which is to answer look-ups by the configuration of the epoch.
abbrev pub IsAsking : {P Q R D : Type 0} → Configs D → ℕ → ℕ → PumpStep P Q R D → Type 0
IsAsking {Q = Q} {R = R} configs epoch class step =
    ((step.result ≡ turn.WantOfMemory)
    × (step.now ≡ record step.before { left = Some (left.Whole (act.Start epoch class)) }))
    ⊎ ((from : AskerOut R) × (to : Q)
    × IsConfigOf configs step.before epoch (arc_value from.config)
    × SameSpawner step.before step.now
    × IsTakenUp epoch class from to (behind_sweep step)
    × ReportsRest (left.Asked epoch class from to) step)

-- There is no such class, or no memory for its words, and nothing was done; or the spawner failed,
-- and that is reported; or it started a process with the words of the class, which is reported and
-- taken up; or the class is that of look-ups of names.
abbrev pub IsStarting : {P Q R D : Type 0} → PumpTells P Q D → ℕ → ℕ → PumpStep P Q R D → Type 0
IsStarting {P = P} {Q = Q} {R = R} tells epoch class step =
    ((step.result ≡ turn.Acted (act.Start epoch class)) × (step.now ≡ step.before)
    × IsProgram tells.programs step.before epoch class None)
    ⊎ ((step.result ≡ turn.WantOfMemory)
    × (step.now ≡ record step.before { left = Some (left.Whole (act.Start epoch class)) }))
    ⊎ ((step.now.starts ≡ step.before.starts) × Rose step.before.faults step.now.faults
    × SameHalves (swept step.before) step.now
    × ReportsRest (left.Failed epoch class) step)
    ⊎ ((words : List (List ℕ)) × (from : P) × (to : Q)
    × IsProgram tells.programs step.before epoch class (Some words)
    × (is_lookup_program words ≡ false)
    × StartsMore step.before.starts step.now.starts words
    × IsFresh tells.read_faults tells.halves from to
    × (step.now.faults ≡ step.before.faults)
    × IsAdmitted tells.halves epoch class from to (behind_sweep step)
    × ReportsRest (left.Started epoch class from to) step)
    ⊎ ((words : List (List ℕ)) × IsProgram tells.programs step.before epoch class (Some words)
    × (is_lookup_program words ≡ true) × IsAsking tells.configs epoch class step)

-- an act, from its beginning
abbrev pub Performs : {P Q R D : Type 0} → PumpTells P Q D → Act → PumpStep P Q R D → Type 0
Performs tells (act.Stop proc) step =
    IsStopping tells.halves proc step.before step.result step.now
Performs tells (act.Send proc question channel text) step =
    IsSending tells.halves proc question channel text step
Performs tells (act.Start epoch class) step = IsStarting tells epoch class step

-- what an earlier turn left: the whole act, or an entry that is reported
abbrev pub Resumes : {P Q R D : Type 0} → PumpTells P Q D → Left P Q (AskerOut R)
    → PumpStep P Q R D → Type 0
Resumes tells (left.Whole act) step = Performs tells act step
Resumes tells (left.Failed epoch class) step =
    ReportsRest (left.Failed epoch class) step × SameSpawner step.before step.now
    × SameHalves step.before step.now
Resumes tells (left.Started epoch class from to) step =
    ReportsRest (left.Started epoch class from to) step × SameSpawner step.before step.now
    × IsAdmitted tells.halves epoch class from to step
Resumes tells (left.Asked epoch class from to) step =
    ReportsRest (left.Asked epoch class from to) step × SameSpawner step.before step.now
    × IsTakenUp epoch class from to step
Resumes tells (left.Died proc act) step =
    ReportsRest (left.Died proc act) step × SameSpawner step.before step.now
    × SameHalves step.before step.now

-- nothing but the desk changed, and of what it tells its refusals, and whether it has stopped
abbrev pub SameButRefused : {P Q R D : Type 0} → PumpView P Q R D → PumpView P Q R D → Type 0
SameButRefused before now = (now ≡ record before {
  desk = now.desk;
  refused = now.refused;
  stopped = now.stopped;
})
    × (before.refused ≤ now.refused)

-- the act was noted at the step's moment, which is the machine's next where the journal is told,
-- and is performed
pub record IsActing {P Q R D : Type 0} (tells : PumpTells P Q D) (step : PumpStep P Q R D)
    : Type 0 where
  pub act : Act
  pub mid : PumpView P Q R D
  pub noted : MayAct step.before.first step.moment step.before.told mid.told (Ok (Some act))
  pub same : mid ≡ record step.before
      { desk = mid.desk; told = mid.told; refused = mid.refused; stopped = mid.stopped }
  pub programs_stay : tells.programs mid.desk ≡ tells.programs step.before.desk
  pub later : step.before.refused ≤ mid.refused
  pub going : mid.stopped ≡ false
  pub performs : Performs tells act (record step { before = mid })

-- Nothing is due, as the machine has it where the journal is told, and the desk refused nothing; or
-- there was no memory, and nothing was noted or refused; or the desk reported that it has stopped
-- or that its journal failed, and nothing was noted; or an act was noted, and is performed.
abbrev pub BeginsTurn : {P Q R D : Type 0} → PumpTells P Q D → PumpStep P Q R D → Type 0
BeginsTurn tells step =
    ((step.result ≡ turn.Idle)
    × (step.now ≡ record step.before { desk = step.now.desk; stopped = step.now.stopped })
    × MayAct step.before.first step.moment step.before.told step.now.told (Ok None)
    × (step.now.stopped ≡ false))
    ⊎ ((step.result ≡ turn.WantOfMemory) × SameButRefused step.before step.now
    × (step.now.refused ≡ step.before.refused) × (step.now.stopped ≡ false))
    ⊎ ((step.result ≡ turn.Ended) × SameButRefused step.before step.now
    × Rose step.before.refused step.now.refused × (step.now.stopped ≡ true))
    ⊎ IsActing tells step

-- what was left is taken up; where nothing was, the next act is
abbrev pub TurnsBy : {P Q R D : Type 0} → PumpTells P Q D → Option (Left P Q (AskerOut R))
    → PumpStep P Q R D → Type 0
TurnsBy tells None step = BeginsTurn tells step
TurnsBy tells (Some rest) step =
    Resumes tells rest (record step { before = record step.before { left = None } })

abbrev pub Turns : {P Q R D : Type 0} → PumpTells P Q D → PumpStep P Q R D → Type 0
Turns tells step = TurnsBy tells step.before.left step
