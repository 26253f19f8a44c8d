-- White space at the ends of a value, dropped twice.
use Rattle.std.proofs.Common.{◌≡◌, ℕ, ◌≤◌, List, [], ◌∷◌, ◌++◌, Bool, true, false, if◌then◌else◌, length, reverse, refl, sym, subst, ap, ◌∙◌, arith}
use Rattle.std.proofs.lemmas.List.{reverse-append, reverse-reverse}
use Rattle.httparse.specs.Grammar.{is_ows, skip_ows, trim_ows}

skip_shorter : (xs : List ℕ) → length (skip_ows xs) ≤ length xs
skip_shorter [] = omega arith
skip_shorter (b ∷ bs) = by_test (skip_shorter bs) (is_ows b)
  where
    by_test : length (skip_ows bs) ≤ length bs → (t : Bool)
        → length (if t then skip_ows bs else b ∷ bs) ≤ length (b ∷ bs)
    by_test later true = omega arith
    by_test later false = omega arith

skip_twice : (xs : List ℕ) → skip_ows (skip_ows xs) ≡ skip_ows xs
skip_twice [] = refl
skip_twice (b ∷ bs) = by_test (skip_twice bs) (is_ows b) refl
  where
    by_test : skip_ows (skip_ows bs) ≡ skip_ows bs → (t : Bool) → is_ows b ≡ t
        → skip_ows (skip_ows (b ∷ bs)) ≡ skip_ows (b ∷ bs)
    by_test later true blank = rw blank later
    by_test later false other = rw other (rw other refl)

-- what is passed over stands in front of the rest
skip_front : (xs : List ℕ) → (front : List ℕ) × (xs ≡ front ++ skip_ows xs)
skip_front [] = ([], refl)
skip_front (b ∷ bs) = by_test (skip_front bs) (is_ows b)
  where
    by_test : (front : List ℕ) × (bs ≡ front ++ skip_ows bs) → (t : Bool)
        → (front : List ℕ) × (b ∷ bs ≡ front ++ (if t then skip_ows bs else b ∷ bs))
    by_test later true = (b ∷ later.0, ap (λ l. b ∷ l) later.1)
    by_test later false = ([], refl)

-- a front of what begins with no white space begins with none
front_stays : (a b : List ℕ) → skip_ows (a ++ b) ≡ a ++ b → skip_ows a ≡ a
front_stays [] b h = refl
front_stays (x ∷ a) b h = by_test (is_ows x) refl
  where
    by_test : (t : Bool) → is_ows x ≡ t → skip_ows (x ∷ a) ≡ x ∷ a
    by_test true blank =
        let shorter : skip_ows (a ++ b) ≡ x ∷ (a ++ b) = rw blank at h in
        absurd (omega (arith, ap length shorter, skip_shorter (a ++ b)))
    by_test false other = rw other refl

-- what is trimmed stays when it is trimmed again
pub trim_twice : (xs : List ℕ) → trim_ows (trim_ows xs) ≡ trim_ows xs
unfolding trim_ows
trim_twice xs =
    let s = skip_ows xs in
    let t = skip_ows (reverse s) in
    let passed = skip_front (reverse s) in
    let whole : s ≡ reverse t ++ reverse passed.0 = sym (reverse-reverse s) ∙ ap reverse passed.1
    ∙ reverse-append passed.0 t in
    let front : skip_ows (reverse t) ≡ reverse t =
    front_stays (reverse t) (reverse passed.0) (subst (λ l. skip_ows l ≡ l) whole (skip_twice xs)) in
    ap (λ l. reverse (skip_ows (reverse l))) front ∙ ap (λ l. reverse (skip_ows l)) (reverse-reverse t)
    ∙ ap reverse (skip_twice (reverse s))
