-- Lines as they are gathered, a byte at a time.
use Rattle.std.specs.Prelude.{◌≡◌, ℕ, List, [], ◌∷◌, ◌++◌, Bool, true, false, if◌then◌else◌}
use Rattle.std.specs.declared.option.Option.{Option}
use Rattle.sq_keeper.specs.Handing.{Adds}
use Rattle.sq_keeper.specs.declared.desk.Handed.{Handed}
use Rattle.sq_keeper.specs.declared.desk.Handed.TheVariants.{Line, Stop}
use Rattle.sq_base.specs.Lines.{is_lf}
use Rattle.sq_keeper.specs.Lines.{cut}

-- the line so far, after a byte
abbrev pub step_line : List ℕ → ℕ → List ℕ
step_line line b = if is_lf b then [] else cut (line ++ b ∷ [])

-- what is handed on at a byte
abbrev pub step_handed : ℕ → List ℕ → ℕ → List Handed
step_handed proc line b = if is_lf b then Line proc line ∷ [] else []

-- the line so far, after bytes
unfoldable pub walk_line : List ℕ → List ℕ → List ℕ
walk_line line [] = line
walk_line line (b ∷ bs) = walk_line (step_line line b) bs

-- what is handed on at bytes
unfoldable pub walk_handed : ℕ → List ℕ → List ℕ → List Handed
walk_handed proc line [] = []
walk_handed proc line (b ∷ bs) = step_handed proc line b ++ walk_handed proc (step_line line b) bs

-- what is added where the desk wants more, and where it wants no more
abbrev pub closing : ℕ → Bool → List Handed
closing proc true = []
closing proc false = Stop proc ∷ []

-- bytes were taken: all of them, or those up to an LF, at which the desk wanted no more
abbrev pub Walks : ℕ → List ℕ → List ℕ → List ℕ → Option (List Handed) → Option (List Handed) → Bool
    → Type 0
Walks proc before now bytes old new true = Adds old new (walk_handed proc before bytes)
    × (now ≡ walk_line before bytes)
Walks proc before now bytes old new false =
    (front more : List ℕ) × (bytes ≡ front ++ 10 ∷ more)
    × Adds old new (walk_handed proc before (front ++ 10 ∷ []) ++ closing proc false)
