-- What the half of a process that is written to tells: that of a thread that answers look-ups tells
-- nothing, and never fails.
use Rattle.std.specs.Prelude.{ℕ, List, Bool, None}
use Rattle.std.specs.declared.option.Option.{Option}
use Rattle.sq_keeper.specs.Pipes.{HalfTells, half_tells}
use Rattle.sq_helper_threads.specs.declared.halves.ProcIn.{ProcIn}
use Rattle.sq_helper_threads.specs.declared.halves.ProcIn.TheVariants.{Asker, Child}

abbrev pub in_contents : {Q R : Type 0} → (Q → Option (List ℕ)) → ProcIn Q R → Option (List ℕ)
in_contents contents (Child to) = contents to
in_contents contents (Asker to) = None

abbrev pub in_faults : {Q R : Type 0} → (Q → ℕ) → ProcIn Q R → ℕ
in_faults faults (Child to) = faults to
in_faults faults (Asker to) = 0

abbrev pub in_closed : {Q R : Type 0} → (Q → Option Bool) → ProcIn Q R → Option Bool
in_closed closed (Child to) = closed to
in_closed closed (Asker to) = None

-- all of it, by what the half of a program tells
abbrev pub in_tells : {Q R : Type 0} → (Q → Option (List ℕ)) → (Q → ℕ) → (Q → Option Bool)
    → HalfTells (ProcIn Q R)
in_tells contents faults closed = half_tells (in_contents contents) (in_faults faults)
    (in_closed closed)
