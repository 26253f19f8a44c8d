-- Places by name, as the builder keeps them.
use Rattle.std.specs.Prelude.{◌≡◌, ℕ, List}
use Rattle.std.specs.Cmp.Lexicographic.{slice_cmp}
use Rattle.std.specs.Map.{lookup}
use Rattle.std.specs.Ordering.{nat_cmp, is_eq}
use Rattle.std.specs.declared.option.Option.{Option}
use Rattle.sq_rules.specs.Configurations.{place_from}

-- the place that is kept for a name
abbrev pub place_at : List (List ℕ × ℕ) → List ℕ → Option ℕ
place_at kept name = lookup (λ k. is_eq (slice_cmp nat_cmp name k)) kept

-- the places that are kept are those of the list
abbrev pub KnowsPlaces : {A : Type 0} → (A → List ℕ) → List (List ℕ × ℕ) → List A → Type 0
KnowsPlaces name_of kept list = (name : List ℕ)
    → place_at kept name ≡ place_from name_of 0 list name
