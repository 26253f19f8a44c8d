-- Names that are lent.
use Rattle.std.proofs.Common.{◌≡◌, ℕ, List, [], ◌∷◌, ◌||◌, map, refl, ap}
use Rattle.std.specs.Borrow.{Bor}
use Rattle.std.specs.List.{list_any}
use Rattle.std.specs.Str.{str_eq_ignore_ascii_case}
use Rattle.sq_message.specs.FieldNames.{is_one_of}

-- one of the names that are lent
pub one_of_lent : (names : List (Bor (List ℕ))) (name : List ℕ)
    → list_any (λ n. str_eq_ignore_ascii_case n.now name) names ≡ is_one_of (map (λ n. n.now) names) name
one_of_lent [] name = refl
one_of_lent (n ∷ names) name = ap (λ b. str_eq_ignore_ascii_case n.now name || b) (one_of_lent names name)
