-- What questions and stops do to the halves of processes.
use Rattle.std.specs.Prelude.{◌≡◌, ℕ, ◌≤◌, ◌==◌, List, Bool, true, not, Some, position, slice_get, slice_set}
use Rattle.std.specs.List.{filter}
use Rattle.std.specs.Io.KnownBytes.{Appends}
use Rattle.std.specs.declared.option.Option.{Option}
use Rattle.sq_outside.specs.Causes.{Rose}
use Rattle.sq_outside.specs.Dials.{IsClosed}
use Rattle.sq_outside.specs.Output.{Grew, IsProperPrefix}
use Rattle.sq_keeper.specs.declared.pipes.Pipe.{Pipe}

-- the place of the first half of this process
abbrev pub pipe_place : {O : Type 0} → ℕ → List (Pipe O) → Option ℕ
pipe_place proc pipes = position (λ p. p.proc == proc) pipes

-- those that were not closed
abbrev pub open_ones : {O : Type 0} → List (Pipe O) → List (Pipe O)
open_ones pipes = filter (λ p. not p.closed) pipes

-- what the half of a process that is written to tells: what was written to it, how often a call of
-- it failed, and whether it is closed
pub record HalfTells (O : Type 0) : Type 0 where
  pub contents : O → Option (List ℕ)
  pub faults : O → ℕ
  pub closed : O → Option Bool

abbrev pub half_tells : {O : Type 0} → (O → Option (List ℕ)) → (O → ℕ) → (O → Option Bool)
    → HalfTells O
half_tells contents faults closed = record
    { contents = contents; faults = faults; closed = closed }

-- the line was written to a half
pub record Asks {O : Type 0} (contents : O → Option (List ℕ)) (faults : O → ℕ) (line : List ℕ)
    (old new : Pipe O) : Type 0 where
  pub proc_is : new.proc ≡ old.proc
  pub closed_is : new.closed ≡ old.closed
  pub wrote : Appends (contents old.to) (contents new.to) line
  pub quiet : faults new.to ≡ faults old.to

-- a write of the line failed: its count rose, a front of the line was written, and not all, and it
-- was closed
pub record Fails {O : Type 0} (contents : O → Option (List ℕ)) (faults : O → ℕ)
    (is_closed : O → Option Bool) (line : List ℕ) (old new : Pipe O) : Type 0 where
  pub proc_is : new.proc ≡ old.proc
  pub closed_is : new.closed ≡ true
  pub ended : IsClosed (is_closed new.to)
  pub wrote : Grew (contents old.to) (contents new.to) (λ part. IsProperPrefix part line)
  pub rose : Rose (faults old.to) (faults new.to)

-- it was closed, and nothing was written
pub record Shuts {O : Type 0} (contents : O → Option (List ℕ)) (faults : O → ℕ)
    (is_closed : O → Option Bool) (old new : Pipe O) : Type 0 where
  pub proc_is : new.proc ≡ old.proc
  pub closed_is : new.closed ≡ true
  pub ended : IsClosed (is_closed new.to)
  pub same : contents new.to ≡ contents old.to
  pub later : faults old.to ≤ faults new.to

-- the half of the process changed so, and no other did
pub record Changes {O : Type 0} (proc : ℕ) (P : Pipe O → Pipe O → Type 0)
    (old new : List (Pipe O)) : Type 0 where
  pub place : ℕ
  pub before : Pipe O
  pub now : Pipe O
  pub place_is : pipe_place proc old ≡ Some place
  pub before_is : slice_get old place ≡ Some before
  pub new_is : new ≡ slice_set old place now
  pub changed : P before now
