-- Names in lower case.
use Rattle.std.proofs.Common.{◌≡◌, ℕ, List, [], ◌∷◌, true, refl, arith}
use Rattle.std.proofs.lemmas.Slice.Eq.{bytes_eq-Decides}
use Rattle.std.proofs.lemmas.Str.Ascii.{lowercase-lowercase}
use Rattle.std.specs.Str.{bytes_eq, str_to_ascii_lowercase}

twice : (name : List ℕ) → str_to_ascii_lowercase (str_to_ascii_lowercase name) ≡ str_to_ascii_lowercase name
twice [] = refl
twice (c ∷ name) = rw (lowercase-lowercase c, twice name) refl

-- a name in lower case stays as it is
pub lower_again : (t name : List ℕ) → t ≡ str_to_ascii_lowercase name → bytes_eq t (str_to_ascii_lowercase t) ≡ true
lower_again t name is =
    let same : t ≡ str_to_ascii_lowercase t = rw (is, twice name) refl in
    grind (arith, same, bytes_eq-Decides t (str_to_ascii_lowercase t))
