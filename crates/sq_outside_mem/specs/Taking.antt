-- Taking the first element that passes a test out of a list.
use Rattle.std.specs.Prelude.{◌≡◌, ℕ, List, Bool, Some, nat_eq, position, remove, slice_index_or}
use Rattle.std.specs.Cmp.Lexicographic.{pointwise}

-- the element is the first that passes the test, and the new list is the old one without it
abbrev pub TakesFirst : {X : Type 0} → (X → Bool) → List X → List X → X → Type 0
TakesFirst test old new x = (i : ℕ) × (position test old ≡ Some i) × (x ≡ slice_index_or old i x)
    × (new ≡ remove old i)

-- the same words in the same order
abbrev pub same_words : List (List ℕ) → List (List ℕ) → Bool
same_words = pointwise (pointwise nat_eq)
