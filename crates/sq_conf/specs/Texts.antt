-- What the reader of a text answered, and what reading gives: they agree, unless memory ran out.
use Rattle.std.specs.Prelude.{◌≡◌, ⊤, Ok, Err}
use Rattle.std.specs.declared.result.Result.{Result}
use Rattle.sq_conf.specs.declared.faults.ConfFault.{ConfFault}
use Rattle.sq_conf.specs.declared.faults.ConfFault.TheVariants as fault
use Rattle.sq_rules.specs.declared.kinds.ConfError.{ConfError}

-- a fault is that of the reading
abbrev pub FailsAt : {Y : Type 0} → ConfFault → Result Y ConfError → Type 0
FailsAt fault.WantOfMemory read = ⊤
FailsAt (fault.At e) read = read ≡ Err e

-- a new state
abbrev pub Leaves : {X Y : Type 0} → Result X ConfFault → Y → Result Y ConfError → Type 0
Leaves (Ok x) after read = read ≡ Ok after
Leaves (Err e) after read = FailsAt e read

-- a value
abbrev pub Tells : {X Y : Type 0} → (X → Y) → Result X ConfFault → Result Y ConfError → Type 0
Tells view (Ok x) read = read ≡ Ok (view x)
Tells view (Err e) read = FailsAt e read
