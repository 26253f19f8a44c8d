-- What a turn adds to the journal, each entry with its cause.
use Rattle.std.specs.Prelude.{◌≡◌, ◌⊎◌, ℕ, List, [], ◌∷◌, true, Some, None, IfSome, Ok}
use Rattle.std.specs.declared.option.Option.{Option}
use Rattle.sq_outside.specs.Causes.{Rose}
use Rattle.sq_outside.specs.World.{StartsMore}
use Rattle.sq_keeper.specs.Pipes.{Changes, HalfTells}
use Rattle.sq_calls.specs.Moments.{GrewAt}
use Rattle.sq_calls.specs.Telling.{MayAct}
use Rattle.sq_machine.specs.declared.acts.Act.{Act}
use Rattle.sq_machine.specs.Entries.{History}
use Rattle.sq_rules.specs.Lookups.{is_lookup_program}
use Rattle.sq_helper_threads.specs.Pumps.{Programs, PumpStep, PumpTells}
use Rattle.sq_helper_threads.specs.Turning.{AddsEntryOf, HasFailed, IsProgram, Turns}
use Rattle.sq_helper_threads.specs.declared.halves.AskerOut.{AskerOut}
use Rattle.sq_helper_threads.specs.declared.turns.Left.{Left}
use Rattle.sq_helper_threads.specs.declared.turns.Left.TheVariants as left

-- The cause of what is left, in this turn: an act was noted; the spawner's count rose; it made a
-- start with the words of the class; the class is that of look-ups of names; or a write to the half
-- of the process failed.
abbrev pub IsNew : {P Q R D : Type 0} → Programs D → HalfTells Q → PumpStep P Q R D
    → Left P Q (AskerOut R) → Type 0
IsNew programs halves step (left.Whole act) = (step.before.left ≡ None)
    × MayAct step.before.first step.moment step.before.told step.now.told (Ok (Some act))
IsNew programs halves step (left.Failed epoch class) = Rose step.before.faults step.now.faults
IsNew programs halves step (left.Started epoch class from to) =
    (words : List (List ℕ)) × IsProgram programs step.before epoch class (Some words)
    × StartsMore step.before.starts step.now.starts words
IsNew programs halves step (left.Asked epoch class from to) =
    (words : List (List ℕ)) × IsProgram programs step.before epoch class (Some words)
    × (is_lookup_program words ≡ true)
IsNew programs halves step (left.Died proc act) = (line : List ℕ)
    × Changes proc (HasFailed halves line) step.before.pipes step.now.pipes

-- its cause is of this turn, or it was left before
abbrev pub IsCaused : {P Q R D : Type 0} → Programs D → HalfTells Q → PumpStep P Q R D
    → Left P Q (AskerOut R) → Type 0
IsCaused programs halves step rest = (step.before.left ≡ Some rest)
    ⊎ IsNew programs halves step rest

-- nothing was noted, or, at the step's moment, the entry of something that has its cause
abbrev pub Follows : {P Q R D : Type 0} → Programs D → HalfTells Q → PumpStep P Q R D
    → Option History → Type 0
Follows {P = P} {Q = Q} {R = R} programs halves step mid = (step.now.told ≡ mid)
    ⊎ ((rest : Left P Q (AskerOut R)) × IsCaused programs halves step rest
    × AddsEntryOf rest step.now.first step.moment mid step.now.told)

-- At most an act was noted, where nothing was left before; and then at most one entry more: of a
-- start that the spawner made or failed, or of the class of look-ups, or of a process whose half
-- failed, in this turn or in the earlier one that left it. Each was noted at the step's moment.
abbrev pub NotesTurn : {P Q R D : Type 0} → Programs D → HalfTells Q → PumpStep P Q R D → Type 0
NotesTurn programs halves step =
    Follows programs halves step step.before.told
    ⊎ ((act : Act) × (mid : Option History) × (step.before.left ≡ None)
    × MayAct step.before.first step.moment step.before.told mid (Ok (Some act))
    × Follows programs halves step mid)

-- A turn at a moment: what it did; what it noted and left, each with its cause; and nothing was
-- noted at any other moment.
pub record IsTurn {P Q R D : Type 0} (tells : PumpTells P Q D) (step : PumpStep P Q R D)
    : Type 0 where
  pub turns : Turns tells step
  pub notes : NotesTurn tells.programs tells.halves step
  pub left : IfSome step.now.left (IsCaused tells.programs tells.halves step)
  pub timely : GrewAt (step.moment ∷ []) step.before.told step.now.told
