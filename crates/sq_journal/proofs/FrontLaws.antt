-- A list compared front by front.
use Rattle.std.proofs.Common.{◌≡◌, ℕ, List, [], ◌∷◌, ◌++◌, Bool, true, false, ◌&&◌, length, take, drop, refl, bytes_eq, nat_eq}

and_front : (a b c d : Bool) → b ≡ (c && d) → (a && b) ≡ ((a && c) && d)
and_front true b c d e = e
and_front false b c d e = refl

-- the front is compared, and then the rest
pub front_first : (xs ps ys : List ℕ)
    → bytes_eq xs (ps ++ ys) ≡ (bytes_eq (take (length ps) xs) ps && bytes_eq (drop (length ps) xs) ys)
front_first xs [] ys = refl
front_first [] (p ∷ ps) ys = refl
front_first (x ∷ xs) (p ∷ ps) ys = and_front (nat_eq x p) (bytes_eq xs (ps ++ ys)) (bytes_eq (take (length ps) xs) ps)
    (bytes_eq (drop (length ps) xs) ys) (front_first xs ps ys)
