-- What a reader answered, and what reading gives: they agree, unless memory ran out.
use Rattle.std.specs.Prelude.{◌≡◌, ⊤, Ok, Err}
use Rattle.std.specs.declared.result.Result.{Result}
use Rattle.sq_conf.specs.declared.faults.ReadFault.{ReadFault}
use Rattle.sq_conf.specs.declared.faults.ReadFault.TheVariants as fault
use Rattle.sq_rules.specs.Steps.{WordList}
use Rattle.sq_rules.specs.declared.kinds.Kind.{Kind}

-- a fault is that of the reading
abbrev pub Fails : {Y : Type 0} → ReadFault → Result Y Kind → Type 0
Fails fault.Memory read = ⊤
Fails (fault.Fault k) read = read ≡ Err k

-- a value
abbrev pub Gives : {X Y : Type 0} → (X → Y) → Result X ReadFault → Result Y Kind → Type 0
Gives view (Ok x) read = read ≡ Ok (view x)
Gives view (Err e) read = Fails e read

-- a value, and the words that are left
abbrev pub Takes : {X Y : Type 0} → (X → Y) → Result X ReadFault → WordList
    → Result (Y × WordList) Kind → Type 0
Takes view (Ok x) after read = read ≡ Ok (view x, after)
Takes view (Err e) after read = Fails e read

-- a new state
abbrev pub Makes : {X Y : Type 0} → Result X ReadFault → Y → Result Y Kind → Type 0
Makes (Ok x) after read = read ≡ Ok after
Makes (Err e) after read = Fails e read
