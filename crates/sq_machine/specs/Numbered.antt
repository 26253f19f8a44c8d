-- In the statement: docs/STATEMENT.md lists which definitions.
-- Things that get numbers from 1 on as they come: those of a test, in order.
use Rattle.std.specs.Prelude.{ℕ, zero, suc, List, [], ◌∷◌, ◌++◌, map, Bool, if◌then◌else◌}

-- the numbers from 1 to n that the test holds of, in order
abbrev pub picks : (ℕ → Bool) → ℕ → List ℕ
picks test zero = []
picks test (suc n) = if test (suc n) then picks test n ++ suc n ∷ [] else picks test n

-- a row for each of these numbers
abbrev pub rows : {A : Type 0} → (ℕ → A) → (ℕ → Bool) → ℕ → List A
rows f test n = map f (picks test n)

-- the numbers below n
abbrev pub below : ℕ → List ℕ
below zero = []
below (suc n) = below n ++ n ∷ []
