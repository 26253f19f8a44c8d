-- Laws of the set of the places of a list at which a test holds.
use Rattle.std.proofs.Common.{◌≡◌, ℕ, zero, suc, ◌<◌, List, [], ◌∷◌, map, take, set, length, get_or, Bool, true, false, if◌then◌else◌, ◌==◌, refl, sym, arith, ap, ◌∙◌}
use Rattle.std.specs.List.{slice_get}
use Rattle.std.specs.Option.{option_map_or}
use Rattle.sq_epochs.specs.Sets.{IsSetAt, IsSetOf, is_in}

same : (a b : ℕ) → (a == b) ≡ true → a ≡ b
same a b t = grind (arith, t)

-- the set of no place is that of the empty list
pub set_none : {A : Type 0} (test : A → Bool) (s : ℕ) → ((p : ℕ) → is_in p s ≡ false) → IsSetOf test [] s
set_none test s none = none

-- the set of a list is that of each list for which the test says the same
pub set_same : {A B : Type 0} (f : A → Bool) (g : B → Bool) (xs : List A) (ys : List B) (s : ℕ) → map f xs ≡ map g ys
    → IsSetOf f xs s → IsSetOf g ys s
set_same f g xs ys s e is = λ p. is p ∙ says f xs p ∙ ap (λ bs. option_map_or (λ b. b) (slice_get bs p) false) e
    ∙ sym (says g ys p)
  where
    says : {X : Type 0} (h : X → Bool) (zs : List X) (p : ℕ)
        → option_map_or h (slice_get zs p) false ≡ option_map_or (λ b. b) (slice_get (map h zs) p) false
    says h [] p = refl
    says h (z ∷ zs) zero = refl
    says h (z ∷ zs) (suc p) = says h zs p

-- an element that is put to a place, and the place in the set with it
pub set_marked : {A : Type 0} (test : A → Bool) (xs : List A) (s t c : ℕ) (x : A) → c < length xs → IsSetOf test xs s
    → IsSetAt c (test x) s t → IsSetOf test (set xs c x) t
set_marked {A = A} test xs s t c x within is at = λ p. at p ∙ by_test p (p == c) refl
  where
    here : (ys : List A) (c : ℕ) → c < length ys → option_map_or test (slice_get (set ys c x) c) false ≡ test x
    here [] c l = absurd (omega arith)
    here (y ∷ ys) zero l = refl
    here (y ∷ ys) (suc c) l = here ys c (omega (arith, l))

    other : (ys : List A) (c p : ℕ) → (p == c) ≡ false
        → option_map_or test (slice_get (set ys c x) p) false ≡ option_map_or test (slice_get ys p) false
    other [] c p t = refl
    other (y ∷ ys) zero zero t = absurd cc
    other (y ∷ ys) zero (suc p) t = refl
    other (y ∷ ys) (suc c) zero t = refl
    other (y ∷ ys) (suc c) (suc p) t = other ys c p (grind (arith, t))

    by_test : (p : ℕ) (b : Bool) → (p == c) ≡ b
        → (if b then test x else is_in p s) ≡ option_map_or test (slice_get (set xs c x) p) false
    by_test p true e = sym (ap (λ q. option_map_or test (slice_get (set xs c x) q) false) (same p c e)
        ∙ here xs c within)
    by_test p false e = is p ∙ sym (other xs c p e)

-- an element more of the front of a list, and its place in the set
pub set_pushed : {A : Type 0} (test : A → Bool) (xs : List A) (s t i : ℕ) (x : A) → i < length xs → x ≡ get_or xs i x
    → IsSetOf test (take i xs) s → IsSetAt i (test x) s t
    → IsSetOf test (take (suc i) xs) t
set_pushed {A = A} test xs s t i x within there is at = λ p. at p ∙ by_test p (p == i) refl
  where
    here : (ys : List A) (i : ℕ) → i < length ys → x ≡ get_or ys i x
        → option_map_or test (slice_get (take (suc i) ys) i) false ≡ test x
    here [] i l e = absurd (omega arith)
    here (y ∷ ys) zero l e = ap test (sym e)
    here (y ∷ ys) (suc i) l e = here ys i (omega (arith, l)) e

    other : (ys : List A) (i p : ℕ) → (p == i) ≡ false
        → option_map_or test (slice_get (take (suc i) ys) p) false ≡ option_map_or test (slice_get (take i ys) p) false
    other [] zero p t = refl
    other [] (suc i) p t = refl
    other (y ∷ ys) zero zero t = absurd cc
    other (y ∷ ys) zero (suc p) t = refl
    other (y ∷ ys) (suc i) zero t = refl
    other (y ∷ ys) (suc i) (suc p) t = other ys i p (grind (arith, t))

    by_test : (p : ℕ) (b : Bool) → (p == i) ≡ b
        → (if b then test x else is_in p s) ≡ option_map_or test (slice_get (take (suc i) xs) p) false
    by_test p true e = sym (ap (λ q. option_map_or test (slice_get (take (suc i) xs) q) false) (same p i e)
        ∙ here xs i within there)
    by_test p false e = is p ∙ sym (other xs i p e)
