-- Tests of each element of a list, where one element changes.
use Rattle.std.proofs.Common.{◌≡◌, ℕ, ◌<◌, length, sym, subst, Result, Ok, Err, OnOk, OnErr, suc, zero, List, [], ◌∷◌, set, Bool, true, ◌&&◌, refl, arith, Some, slice_get}
use Rattle.std.proofs.lemmas.Bool.{and_from}
use Rattle.std.specs.List.{list_all}

-- what both of two tests say of the first, and of the second
pub first_true : (a b : Bool) → (a && b) ≡ true → a ≡ true
first_true a b e = grind (arith, e)

pub second_true : (a b : Bool) → (a && b) ≡ true → b ≡ true
second_true a b e = grind (arith, e)

pub all_at : {A : Type 0} (p : A → Bool) (xs : List A) (i : ℕ) (x : A) → list_all p xs ≡ true → slice_get xs i ≡ Some x
    → p x ≡ true
all_at p [] i x all is = cc
all_at p (y ∷ xs) zero x all is = let same : x ≡ y = cc in rw same (first_true (p y) (list_all p xs) all)
all_at p (y ∷ xs) (suc i) x all is = all_at p xs i x (second_true (p y) (list_all p xs) all) is

pub all_set : {A : Type 0} (p : A → Bool) (xs : List A) (i : ℕ) (y : A) → list_all p xs ≡ true → p y ≡ true
    → list_all p (set xs i y) ≡ true
all_set p [] i y all one = refl
all_set p (x ∷ xs) zero y all one = and_from (p y) (list_all p xs) one (second_true (p x) (list_all p xs) all)
all_set p (x ∷ xs) (suc i) y all one =
    and_from (p x) (list_all p (set xs i y)) (first_true (p x) (list_all p xs) all)
    (all_set p xs i y (second_true (p x) (list_all p xs) all) one)

-- what follows at each element
pub all_from : {A : Type 0} (p q : A → Bool) (xs : List A) → ((x : A) → p x ≡ true → q x ≡ true) → list_all p xs ≡ true
    → list_all q xs ≡ true
all_from p q [] then_so all = refl
all_from p q (x ∷ xs) then_so all =
    and_from (q x) (list_all q xs) (then_so x (first_true (p x) (list_all p xs) all))
    (all_from p q xs then_so (second_true (p x) (list_all p xs) all))

-- what follows at each element of two tests
pub all_from_both : {A : Type 0} (p q r : A → Bool) (xs : List A) → ((x : A) → p x ≡ true → q x ≡ true → r x ≡ true)
    → list_all p xs ≡ true → list_all q xs ≡ true → list_all r xs ≡ true
all_from_both p q r [] then_so one other = refl
all_from_both p q r (x ∷ xs) then_so one other =
    and_from (r x) (list_all r xs)
    (then_so x (first_true (p x) (list_all p xs) one) (first_true (q x) (list_all q xs) other))
    (all_from_both p q r xs then_so (second_true (p x) (list_all p xs) one) (second_true (q x) (list_all q xs) other))

-- the element at a place
pub found : {A : Type 0} (xs : List A) (i : ℕ) → i < length xs → (x : A) × (slice_get xs i ≡ Some x)
found [] i within = absurd (omega arith)
found (x ∷ xs) zero within = (x, refl)
found (x ∷ xs) (suc i) within = found xs i (omega arith)

-- what holds whether a change was made or failed
pub by_either : {V E X : Type 0} (P : X → Type 0) (r : Result V E) (was changed now : X) → P was
    → OnOk r (now ≡ changed) → OnErr r (now ≡ was) → P changed → P now
by_either P (Ok v) was changed now before ok err after = subst P (sym ok) after
by_either P (Err e) was changed now before ok err after = subst P (sym err) before
