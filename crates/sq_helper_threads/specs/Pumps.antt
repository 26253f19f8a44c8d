-- What a pump holds.
use Rattle.std.specs.Prelude.{ℕ, Bool, List}
use Rattle.std.specs.declared.option.Option.{Option}
use Rattle.sq_outside.specs.World.{Starts}
use Rattle.sq_keeper.specs.Pipes.{HalfTells}
use Rattle.sq_keeper.specs.declared.pipes.Pipe.{Pipe}
use Rattle.sq_machine.specs.Entries.{History}
use Rattle.sq_rules.specs.Configurations.{Configuration}
use Rattle.sq_calls.specs.Legality.{Beginning}
use Rattle.sq_helper_threads.specs.declared.halves.AskerOut.{AskerOut}
use Rattle.sq_helper_threads.specs.declared.reader.Reader.{Reader}
use Rattle.sq_helper_threads.specs.declared.turns.Left.{Left}
use Rattle.sq_helper_threads.specs.declared.turns.Turn.{Turn}

-- how a desk tells the words of the class at a place of an epoch: None where it tells none, Some
-- None where there is no such class
abbrev pub Programs : Type 0 → Type 0
Programs D = D → ℕ → ℕ → Option (Option (List (List ℕ)))

-- how a desk tells the configuration of an epoch: None where it tells none, Some None where there
-- is no such epoch
abbrev pub Configs : Type 0 → Type 0
Configs D = D → ℕ → Option (Option Configuration)

-- of the desk: itself, with what it began, where that is told, the journal's entries, the newest
-- first, where they are told, how often it refused, whether its last call reported that it has
-- stopped, and the reconfigurations that it made, where they are told; of the spawner: the words of
-- the starts that were made, where they are told, and how often it failed; the halves of processes
-- that are written to; those that are read and that no keeper has, of programs and of threads that
-- answer look-ups, and for how many more of each there is room; and what an earlier turn left
pub record PumpView (P Q R D : Type 0) : Type 0 where
  pub desk : D
  pub first : Option Beginning
  pub told : Option History
  pub refused : ℕ
  pub stopped : Bool
  pub made : Option ℕ
  pub starts : Starts
  pub faults : ℕ
  pub pipes : List (Pipe Q)
  pub readers : List (Reader P)
  pub room : ℕ
  pub asking : List (Reader (AskerOut R))
  pub asking_room : ℕ
  pub left : Option (Left P Q (AskerOut R))

-- how the desk of a pump tells its programs and its configurations, and the halves of processes
-- what came of them: of one that is read, how often a call of it failed
pub record PumpTells (P Q D : Type 0) : Type 0 where
  pub programs : Programs D
  pub configs : Configs D
  pub read_faults : P → ℕ
  pub halves : HalfTells Q

abbrev pub pump_tells : {P Q D : Type 0} → Programs D → Configs D → (P → ℕ) → HalfTells Q
    → PumpTells P Q D
pump_tells programs configs read_faults halves = record {
  programs = programs;
  configs = configs;
  read_faults = read_faults;
  halves = halves;
}

-- what is seen of a pump round a turn: at which moment it is, the pump before, what the turn
-- answered, and the pump behind it
pub record PumpStep (P Q R D : Type 0) : Type 0 where
  pub moment : ℕ
  pub before : PumpView P Q R D
  pub result : Turn
  pub now : PumpView P Q R D

abbrev pub step : {P Q R D : Type 0} → ℕ → PumpView P Q R D → Turn → PumpView P Q R D
    → PumpStep P Q R D
step moment before result now = record {
  moment = moment;
  before = before;
  result = result;
  now = now;
}
