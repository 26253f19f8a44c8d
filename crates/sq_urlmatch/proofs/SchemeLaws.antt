-- Schemes that are not empty.
use Rattle.std.proofs.Common.{◌≡◌, ℕ, not, ◌&&◌, ◌==◌, List, [], ◌∷◌, length, refl, rules}
use Rattle.std.specs.List.{list_any}
use Rattle.std.specs.Str.{str_eq_ignore_ascii_case}
use Rattle.sq_rules.specs.Leaves.{has_scheme}

-- of a scheme that is not empty, the names decide
pub some_scheme : (names : List (List ℕ)) (scheme : List ℕ) →
    has_scheme names scheme ≡ (not (length scheme == 0) && list_any (λ n. str_eq_ignore_ascii_case n scheme) names)
some_scheme names [] = refl
some_scheme names (b ∷ bs) = search rules
