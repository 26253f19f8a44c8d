-- Lists with one element more at the end, and their front parts.
use Rattle.std.proofs.Common.{◌≡◌, ℕ, suc, zero, List, [], ◌∷◌, ◌++◌, length, take, set, Bool, true, false, ◌&&◌, refl, ap, ◌∙◌, arith, Some, slice_get}
use Rattle.std.proofs.lemmas.Bool.{and_from}
use Rattle.std.proofs.lemmas.List.Folds.{list_all-append}
use Rattle.std.specs.List.{list_all}
use Rattle.sq_base.proofs.CommonLaws.{and_then_so}
use Rattle.sq_rules.specs.Drafts.{in_last}
use Rattle.sq_rules.specs.declared.configs.Term.{Term}

-- a test holds of each, with one more of which it holds
pub all_push : {A : Type 0} (p : A → Bool) (xs : List A) (x : A) → list_all p xs ≡ true → p x ≡ true
    → list_all p (xs ++ x ∷ []) ≡ true
all_push p xs x all one = list_all-append p xs (x ∷ [])
    ∙ and_from (list_all p xs) (p x && true) all (and_from (p x) true one refl)

-- a test does not hold of each where it fails at the last
pub last_fails : {A : Type 0} (p : A → Bool) (xs : List A) (x : A) → p x ≡ false → list_all p (xs ++ x ∷ []) ≡ false
last_fails p xs x one = list_all-append p xs (x ∷ []) ∙ grind (arith, one)

-- a test that holds of each holds of the first of them
pub all_take : {A : Type 0} (p : A → Bool) (n : ℕ) (xs : List A) → list_all p xs ≡ true → list_all p (take n xs) ≡ true
all_take p zero xs all = refl
all_take p (suc n) [] all = refl
all_take p (suc n) (x ∷ xs) all = and_then_so (p x) (list_all p xs) (list_all p (take n xs)) all (all_take p n xs)

-- the last of some lines, with a term more
pub last_line : (t : Term) (lines : List (List Term)) (n : ℕ) (l : List Term) → suc n ≡ length lines
    → slice_get lines n ≡ Some l → set lines n (l ++ t ∷ []) ≡ in_last t lines
last_line t [] n l long is = cc
last_line t (k ∷ []) zero l long is = let same : l ≡ k = cc in ap (λ z. (z ++ t ∷ []) ∷ []) same
last_line t (k ∷ []) (suc n) l long is = cc
last_line t (k ∷ m ∷ lines) zero l long is = absurd (omega arith)
last_line t (k ∷ m ∷ lines) (suc n) l long is = ap (λ z. k ∷ z) (last_line t (m ∷ lines) n l (omega arith) is)
