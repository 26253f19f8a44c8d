-- What a desk was handed.
use Rattle.std.specs.Prelude.{◌≡◌, ℕ, List, [], ◌∷◌, ◌++◌, Some, IfSome}
use Rattle.std.specs.declared.option.Option.{Option}
use Rattle.sq_keeper.specs.declared.desk.Handed.{Handed}
use Rattle.sq_keeper.specs.declared.desk.Handed.TheVariants.{Line, Stop}
use Rattle.sq_keeper.specs.declared.desk.LineEnd.{LineEnd}
use Rattle.sq_keeper.specs.declared.desk.LineEnd.TheVariants.{Go, End, WantOfMemory}

-- where the desk tells what it was handed, it is what it was handed before, and more
abbrev pub Adds : Option (List Handed) → Option (List Handed) → List Handed → Type 0
Adds old new more = IfSome new
    (λ now. (before : List Handed) × (old ≡ Some before) × (now ≡ before ++ more))

-- what a call of `line` adds: the line where it was taken, and that no more are wanted
abbrev pub taken : ℕ → List ℕ → LineEnd → List Handed
taken proc bytes Go = Line proc bytes ∷ []
taken proc bytes End = Line proc bytes ∷ Stop proc ∷ []
taken proc bytes WantOfMemory = []
