-- What a turn of a rewriter's pump does.
use Rattle.std.specs.Prelude.{◌≡◌, ◌⊎◌, ℕ, List, [], ◌∷◌, ◌++◌, false, Some, None, Result, Ok, Err}
use Rattle.std.specs.declared.option.Option.{Option}
use Rattle.sq_base.specs.Replies.{question_text}
use Rattle.sq_outside.specs.Causes.{Rose}
use Rattle.sq_outside.specs.Dials.{IsEmpty, IsOpen}
use Rattle.sq_outside.specs.World.{StartsMore}
use Rattle.sq_keeper.specs.declared.pipes.Pipe.{Pipe}
use Rattle.sq_keeper.specs.Pipes.{Asks, Fails, HalfTells, Shuts, Changes, open_ones, pipe_place}
use Rattle.sq_rewrite.specs.States.{RewriteState}
use Rattle.sq_rewrite.specs.declared.acts.RewriteAct.{RewriteAct}
use Rattle.sq_rewrite.specs.declared.acts.RewriteAct.TheVariants as act
use Rattle.sq_rewrite.specs.declared.faults.RewriteFault.{RewriteFault}
use Rattle.sq_rewrite.specs.declared.faults.RewriteFault.TheVariants as fault
use Rattle.sq_rewrite.specs.Handing.{HandsDeath}
use Rattle.sq_rewrite.specs.Pumps.{RewritePumpView, RewriteStep}
use Rattle.sq_rewrite.specs.RewriterCalls.{MakesAct, NotesFailure, NotesStart, Tells}
use Rattle.sq_rewrite.specs.declared.turns.RewriterTurn.{RewriterTurn}
use Rattle.sq_rewrite.specs.declared.turns.RewriterTurn.TheVariants as turn
use Rattle.sq_rewrite.specs.declared.turns.StartedHalves.{StartedHalves}

-- nothing of the spawner, and nothing of the halves, changed
pub record SpawnerStays {P Q : Type 0} (before now : RewritePumpView P Q) : Type 0 where
  pub starts : now.starts ≡ before.starts
  pub faults : now.faults ≡ before.faults

pub record HalvesStay {P Q : Type 0} (before now : RewritePumpView P Q) : Type 0 where
  pub pipes : now.pipes ≡ before.pipes
  pub readers : now.readers ≡ before.readers

-- nothing but the halves that are written to, and what the rewriter tells, changed, and nothing is
-- left
pub record ChangesPipes {P Q : Type 0} (before now : RewritePumpView P Q) : Type 0 where
  pub spawner : SpawnerStays before now
  pub readers : now.readers ≡ before.readers
  pub left : now.left ≡ None

-- the half of the process that is written to changed so; where there is none, nothing did
abbrev pub ChangesHalf : {Q : Type 0} → ℕ → (Pipe Q → Pipe Q → Type 0) → List (Pipe Q)
    → List (Pipe Q) → Type 0
ChangesHalf proc IsSo old new = Changes proc IsSo old new
    ⊎ ((pipe_place proc old ≡ None) × (new ≡ old))

-- a half was closed
abbrev pub IsShut : {Q : Type 0} → HalfTells Q → Pipe Q → Pipe Q → Type 0
IsShut tells = Shuts tells.contents tells.faults tells.closed

-- the half of the process was closed, and those that were closed are held no more
abbrev pub ClosesHalf : {Q : Type 0} → HalfTells Q → ℕ → List (Pipe Q) → List (Pipe Q) → Type 0
ClosesHalf {Q = Q} tells proc old new = (shut : List (Pipe Q))
    × ChangesHalf proc (IsShut tells) old shut × (new ≡ open_ones shut)

-- the half of the process was closed and kept
abbrev pub StopsProcess : {P Q : Type 0} → HalfTells Q → ℕ → RewritePumpView P Q → RewriterTurn
    → RewritePumpView P Q → Type 0
StopsProcess tells proc before result now =
    (result ≡ turn.Acted (act.Stop proc)) × ChangesPipes before now
    × (now.told ≡ before.told)
    × ChangesHalf proc (IsShut tells) before.pipes now.pipes

-- The question's line was written to the half of the process; or the write failed, the half was
-- closed, and the rewriter was told of the death.
abbrev pub SendsQuestion : {P Q : Type 0} → HalfTells Q → ℕ → ℕ → Option ℕ → List ℕ
    → RewritePumpView P Q → RewriterTurn → RewritePumpView P Q → Type 0
SendsQuestion tells proc question channel text before result now =
    (result ≡ turn.Acted (act.Send proc question channel text))
    × ChangesPipes before now
    × (((now.told ≡ before.told)
    × ChangesHalf proc (Asks tells.contents tells.faults (question_text channel text))
    before.pipes now.pipes)
    ⊎ (Changes proc (Fails tells.contents tells.faults tells.closed (question_text channel text))
    before.pipes now.pipes
    × HandsDeath before.told now.told proc))

-- The process was noted as started, and both its halves were taken up with its number, the one that
-- is read with the moment of the turn, too; or the
-- rewriter refused it, and neither was; or there was no memory, and both are left.
abbrev pub NotesProcess : {P Q : Type 0} → P → Q → RewriteStep P Q → Type 0
NotesProcess from to step =
    ((proc : ℕ) × (step.result ≡ turn.Acted act.Start)
    × Tells (NotesStart (Ok proc)) step.before.told step.now.told
    × (step.now.pipes
    ≡ step.before.pipes ++ record { proc = proc; to = to; closed = false } ∷ [])
    × (step.now.readers ≡ step.before.readers
    ++ record { proc = proc; since = step.moment; from = from } ∷ [])
    × (step.now.left ≡ None))
    ⊎ ((refusal : RewriteFault) × ¬ (refusal ≡ fault.WantOfMemory)
    × (step.result ≡ turn.Acted act.Start)
    × Tells (NotesStart (Err refusal)) step.before.told step.now.told
    × HalvesStay step.before step.now × (step.now.left ≡ None))
    ⊎ ((step.result ≡ turn.WantOfMemory) × (step.now.told ≡ step.before.told)
    × HalvesStay step.before step.now
    × (step.now.left ≡ Some (record { from = from; to = to })))

-- what a start that was made gave: nothing was written to the one half, and it is open; no call of
-- either failed
pub record AreNewHalves {P Q : Type 0} (read_faults : P → ℕ) (tells : HalfTells Q) (from : P)
    (to : Q) : Type 0 where
  pub empty : IsEmpty (tells.contents to)
  pub is_open : IsOpen (tells.closed to)
  pub from_fresh : read_faults from ≡ 0
  pub to_fresh : tells.faults to ≡ 0

-- with those of the halves alone that were not closed
abbrev pub without_closed : {P Q : Type 0} → RewritePumpView P Q → RewritePumpView P Q
without_closed pump = record pump { pipes = open_ones pump.pipes }

-- The spawner failed, and the rewriter was told so; or it started a process with the words of the
-- program.
abbrev pub StartsProcess : {P Q : Type 0} → (P → ℕ) → HalfTells Q → RewriteStep P Q → Type 0
StartsProcess {P = P} {Q = Q} read_faults tells step =
    ((step.result ≡ turn.Acted act.Start) × (step.now.starts ≡ step.before.starts)
    × Rose step.before.faults step.now.faults
    × ((gave : Result (Unit {0}) RewriteFault)
    × Tells (NotesFailure gave) step.before.told step.now.told)
    × HalvesStay (without_closed step.before) step.now × (step.now.left ≡ None))
    ⊎ ((from : P) × (to : Q) × StartsMore step.before.starts step.now.starts step.before.words
    × AreNewHalves read_faults tells from to × (step.now.faults ≡ step.before.faults)
    × NotesProcess from to (record step { before = without_closed step.before }))

-- an act
abbrev pub PerformsAct : {P Q : Type 0} → (P → ℕ) → HalfTells Q → RewriteAct → RewriteStep P Q
    → Type 0
PerformsAct read_faults tells (act.Stop proc) step =
    StopsProcess tells proc step.before step.result step.now
PerformsAct read_faults tells (act.Send proc question channel text) step =
    SendsQuestion tells proc question channel text step.before step.result step.now
PerformsAct read_faults tells act.Start step = StartsProcess read_faults tells step

-- the act that was due was made, and is performed
pub record TakesAct {P Q : Type 0} (read_faults : P → ℕ) (tells : HalfTells Q)
    (step : RewriteStep P Q) : Type 0 where
  pub act : RewriteAct
  pub mid : Option RewriteState
  pub made : Tells (MakesAct (Some act)) step.before.told mid
  pub performs : PerformsAct read_faults tells act
      (record step { before = record step.before { told = mid } })

-- nothing is due, and nothing changed; or an act is
abbrev pub BeginsAct : {P Q : Type 0} → (P → ℕ) → HalfTells Q → RewriteStep P Q → Type 0
BeginsAct read_faults tells step =
    ((step.result ≡ turn.Idle) × Tells (MakesAct None) step.before.told step.now.told
    × (step.now ≡ record step.before { told = step.now.told }))
    ⊎ TakesAct read_faults tells step

-- the process that was left is noted; without one, the next act is taken
abbrev pub TurnsFrom : {P Q : Type 0} → (P → ℕ) → HalfTells Q → Option (StartedHalves P Q)
    → RewriteStep P Q → Type 0
TurnsFrom read_faults tells None step = BeginsAct read_faults tells step
TurnsFrom read_faults tells (Some halves) step =
    SpawnerStays step.before step.now
    × NotesProcess halves.from halves.to
    (record step { before = record step.before { left = None } })
