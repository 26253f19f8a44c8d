-- Rows for the numbers that a test picks: one number more, rows changed, rows left, and the row of a number.
use Rattle.std.proofs.Common.{◌≡◌, ℕ, zero, suc, ◌≤◌, List, [], ◌∷◌, ◌++◌, map, map-id, Bool, true, false, ◌&&◌, ◌||◌, ◌==◌, nat_le, if◌then◌else◌, cond, Option, Some, None, is_some, refl, sym, ap, ap₂, ◌∙◌, arith, append-nil, filter, find}
use Rattle.std.specs.List.{list_any}
use Rattle.std.specs.Option.{option_or}
use Rattle.std.proofs.lemmas.Bool.{and_right, le-leb}
use Rattle.std.proofs.lemmas.Bool.Decides.{nat_tests}
use Rattle.std.proofs.lemmas.List.{map-append}
use Rattle.std.proofs.lemmas.List.Elements.{filter-append}
use Rattle.std.proofs.lemmas.List.Folds.{find-append}
use Rattle.sq_machine.specs.Numbered.{picks, rows}

-- tests that agree on the numbers up to n pick the same of them
pub picks_same : (p p' : ℕ → Bool) (n : ℕ) → ((k : ℕ) → 1 ≤ k → k ≤ n → p' k ≡ p k) → picks p' n ≡ picks p n
picks_same p p' zero same = refl
picks_same p p' (suc n) same =
    ap₂ (λ (b : Bool) (xs : List ℕ). if b then xs ++ suc n ∷ [] else xs) (same (suc n) (omega arith) (omega arith))
    (picks_same p p' n (λ k low high. same k low (omega arith)))

map_if : {A : Type 0} (f : ℕ → A) (b : Bool) (xs : List ℕ) (n : ℕ)
    → map f (if b then xs ++ n ∷ [] else xs) ≡ (if b then map f xs ++ f n ∷ [] else map f xs)
map_if f true xs n = map-append f xs (n ∷ [])
map_if f false xs n = refl

-- the rows up to one number more
pub rows_step : {A : Type 0} (f : ℕ → A) (p : ℕ → Bool) (n : ℕ)
    → rows f p (suc n) ≡ (if p (suc n) then rows f p n ++ f (suc n) ∷ [] else rows f p n)
rows_step f p n = map_if f (p (suc n)) (picks p n) (suc n)

changed_by : {A B : Type 0} (g : A → B) (b : Bool) (xs : List A) (ys : List B) (x : A) (y : B) → (b ≡ true → y ≡ g x)
    → ys ≡ map g xs
    → (if b then ys ++ y ∷ [] else ys) ≡ map g (if b then xs ++ x ∷ [] else xs)
changed_by {A} {B} g true xs ys x y here e = ap₂ (λ (z : List B) (w : B). z ++ w ∷ []) e (here refl)
    ∙ sym (map-append g xs (x ∷ []))
changed_by g false xs ys x y here e = e

all_changed : {A B : Type 0} (g : A → B) (f : ℕ → A) (f' : ℕ → B) (p : ℕ → Bool) (n : ℕ)
    → ((k : ℕ) → 1 ≤ k → k ≤ n → p k ≡ true → f' k ≡ g (f k)) → rows f' p n ≡ map g (rows f p n)
all_changed g f f' p zero e = refl
all_changed g f f' p (suc n) e =
    rows_step f' p n
    ∙ changed_by g (p (suc n)) (rows f p n) (rows f' p n) (f (suc n)) (f' (suc n))
    (e (suc n) (omega arith) (omega arith)) (all_changed g f f' p n (λ k low high. e k low (omega arith)))
    ∙ ap (map g) (sym (rows_step f p n))

-- each row is changed, and the same numbers have one
pub rows_changed : {A B : Type 0} (g : A → B) (f : ℕ → A) (f' : ℕ → B) (p p' : ℕ → Bool) (n : ℕ)
    → ((k : ℕ) → 1 ≤ k → k ≤ n → p' k ≡ p k) → ((k : ℕ) → 1 ≤ k → k ≤ n → p k ≡ true → f' k ≡ g (f k))
    → rows f' p' n ≡ map g (rows f p n)
rows_changed g f f' p p' n same e = ap (map f') (picks_same p p' n same) ∙ all_changed g f f' p n e

-- the rows are as they were
pub rows_same : {A : Type 0} (f f' : ℕ → A) (p p' : ℕ → Bool) (n : ℕ)
    → ((k : ℕ) → 1 ≤ k → k ≤ n → p' k ≡ p k) → ((k : ℕ) → 1 ≤ k → k ≤ n → p k ≡ true → f' k ≡ f k)
    → rows f' p' n ≡ rows f p n
rows_same {A} f f' p p' n same e = rows_changed (λ (r : A). r) f f' p p' n same e ∙ map-id (rows f p n)

-- one number more has a row, or has none
pub rows_next : {A : Type 0} (f f' : ℕ → A) (p p' : ℕ → Bool) (n : ℕ) (b : Bool) → p' (suc n) ≡ b
    → ((k : ℕ) → 1 ≤ k → k ≤ n → p' k ≡ p k) → ((k : ℕ) → 1 ≤ k → k ≤ n → p k ≡ true → f' k ≡ f k)
    → rows f' p' (suc n) ≡ (if b then rows f p n ++ f' (suc n) ∷ [] else rows f p n)
rows_next {A} f f' p p' n b is same e =
    rows_step f' p' n ∙ ap₂ (λ (t : Bool) (xs : List A). if t then xs ++ f' (suc n) ∷ [] else xs) is
    (rows_same f f' p p' n same e)

tail_by : {A : Type 0} (d b : Bool) (zs ys : List A) (x y : A) → b ≡ d → (b ≡ true → y ≡ x) → ys ≡ zs
    → (if b then ys ++ y ∷ [] else ys) ≡ zs ++ cond d (x ∷ []) []
tail_by {A} true true zs ys x y is here e = ap₂ (λ (z : List A) (w : A). z ++ w ∷ []) e (here refl)
tail_by true false zs ys x y is here e = absurd (cc)
tail_by false true zs ys x y is here e = absurd (cc)
tail_by false false zs ys x y is here e = e ∙ sym (append-nil zs)

left_by : {A : Type 0} (keep : A → Bool) (b b' : Bool) (xs ys : List A) (x y : A) → b' ≡ (b && keep x)
    → (b' ≡ true → y ≡ x) → ys ≡ filter keep xs
    → (if b' then ys ++ y ∷ [] else ys) ≡ filter keep (if b then xs ++ x ∷ [] else xs)
left_by keep true b' xs ys x y is here e = tail_by (keep x) b' (filter keep xs) ys x y is here e
    ∙ sym (filter-append keep xs (x ∷ []))
left_by keep false true xs ys x y is here e = absurd (cc)
left_by keep false false xs ys x y is here e = e

-- the rows that are kept are left, as they were
pub rows_left : {A : Type 0} (keep : A → Bool) (f f' : ℕ → A) (p p' : ℕ → Bool) (n : ℕ)
    → ((k : ℕ) → 1 ≤ k → k ≤ n → p' k ≡ (p k && keep (f k))) → ((k : ℕ) → 1 ≤ k → k ≤ n → p' k ≡ true → f' k ≡ f k)
    → rows f' p' n ≡ filter keep (rows f p n)
rows_left keep f f' p p' zero test e = refl
rows_left keep f f' p p' (suc n) test e =
    rows_step f' p' n
    ∙ left_by keep (p (suc n)) (p' (suc n)) (rows f p n) (rows f' p' n) (f (suc n)) (f' (suc n))
    (test (suc n) (omega arith) (omega arith)) (e (suc n) (omega arith) (omega arith))
    (rows_left keep f f' p p' n (λ k low high. test k low (omega arith)) (λ k low high. e k low (omega arith)))
    ∙ ap (filter keep) (sym (rows_step f p n))

-- where no number is picked there is no row
pub rows_none : {A : Type 0} (f : ℕ → A) (p : ℕ → Bool) (n : ℕ) → ((k : ℕ) → 1 ≤ k → k ≤ n → p k ≡ false)
    → rows f p n ≡ []
rows_none f p zero none = refl
rows_none {A} f p (suc n) none =
    rows_step f p n
    ∙ ap₂ (λ (t : Bool) (xs : List A). if t then xs ++ f (suc n) ∷ [] else xs)
    (none (suc n) (omega arith) (omega arith)) (rows_none f p n (λ k low high. none k low (omega arith)))

-- q is one of the numbers from 1 to n, and is picked
abbrev pub picked : (ℕ → Bool) → ℕ → ℕ → Bool
picked p n q = (nat_le 1 q && nat_le q n) && p q

past : (q n : ℕ) → (q == suc n) ≡ true → nat_le q n ≡ false
past q n e = grind (arith, nat_tests)

upto : (q n : ℕ) → (q == suc n) ≡ true → nat_le q (suc n) ≡ true
upto q n e = grind (arith, nat_tests)

low : (q n : ℕ) → (q == suc n) ≡ true → nat_le 1 q ≡ true
low q n e = grind (arith, nat_tests)

other : (q n : ℕ) → (q == suc n) ≡ false → nat_le q (suc n) ≡ nat_le q n
other q n e = grind (arith, nat_tests)

-- two numbers that pass the test are one
pub equal : (a b : ℕ) → (a == b) ≡ true → a ≡ b
equal a b e = grind (arith, nat_tests)

three : (a b s : Bool) → b ≡ false → ((a && b) && s) ≡ false
three a b s e = ap (λ (x : Bool). x && s) (and_right a b e)

picked_past : (p : ℕ → Bool) (n q : ℕ) → (q == suc n) ≡ true → picked p n q ≡ false
picked_past p n q e = three (nat_le 1 q) (nat_le q n) (p q) (past q n e)

picked_last : (p : ℕ → Bool) (n q : ℕ) (b : Bool) → (q == suc n) ≡ true → p (suc n) ≡ b → picked p (suc n) q ≡ b
picked_last p n q b e is =
    ap₂ (λ (x y : Bool). (x && y) && p q) (low q n e) (upto q n e) ∙ ap p (equal q (suc n) e) ∙ is

picked_other : (p : ℕ → Bool) (n q : ℕ) → (q == suc n) ≡ false → picked p (suc n) q ≡ picked p n q
picked_other p n q e = ap (λ (x : Bool). (nat_le 1 q && x) && p q) (other q n e)

picked_not : (p : ℕ → Bool) (n q : ℕ) (b : Bool) → (q == suc n) ≡ b → p (suc n) ≡ false
    → picked p (suc n) q ≡ picked p n q
picked_not p n q true e is = picked_last p n q false e is ∙ sym (picked_past p n q e)
picked_not p n q false e is = picked_other p n q e

found_next : {A : Type 0} (f : ℕ → A) (p : ℕ → Bool) (n q : ℕ) (d : Bool) → (q == suc n) ≡ d → p (suc n) ≡ true
    → option_or (if picked p n q then Some (f q) else None) (cond d (Some (f (suc n))) None)
    ≡ (if picked p (suc n) q then Some (f q) else None)
found_next {A} f p n q true e is =
    ap (λ (b : Bool). option_or (if b then Some (f q) else None) (Some (f (suc n)))) (picked_past p n q e)
    ∙ ap (λ (k : ℕ). Some (f k)) (sym (equal q (suc n) e))
    ∙ sym (ap (λ (b : Bool). if b then Some (f q) else None) (picked_last p n q true e is))
found_next {A} f p n q false e is = keep (picked p n q)
    ∙ sym (ap (λ (b : Bool). if b then Some (f q) else None) (picked_other p n q e))
  where
    keep : (b : Bool) → option_or (if b then Some (f q) else None) None ≡ (if b then Some (f q) else None)
    keep true = refl
    keep false = refl

found_by : {A : Type 0} (test : A → Bool) (f : ℕ → A) (p : ℕ → Bool) (n q : ℕ) (b : Bool) (xs : List A) → p (suc n) ≡ b
    → (b ≡ true → test (f (suc n)) ≡ (q == suc n))
    → find test xs ≡ (if picked p n q then Some (f q) else None)
    → find test (if b then xs ++ f (suc n) ∷ [] else xs) ≡ (if picked p (suc n) q then Some (f q) else None)
found_by {A} test f p n q true xs is here e =
    find-append test xs (f (suc n) ∷ [])
    ∙ ap₂ (λ (o : Option A) (t : Bool). option_or o (cond t (Some (f (suc n))) None)) e (here refl)
    ∙ found_next f p n q (q == suc n) refl is
found_by {A} test f p n q false xs is here e = e
    ∙ sym (ap (λ (b : Bool). if b then Some (f q) else None) (picked_not p n q (q == suc n) refl is))

-- the row of number q, by a test that holds of it and of no other row
pub row_found : {A : Type 0} (test : A → Bool) (f : ℕ → A) (p : ℕ → Bool) (n q : ℕ)
    → ((k : ℕ) → 1 ≤ k → k ≤ n → p k ≡ true → test (f k) ≡ (q == k))
    → find test (rows f p n) ≡ (if picked p n q then Some (f q) else None)
row_found {A} test f p zero q is = sym (ap (λ (b : Bool). if b then Some (f q) else None) (nothing (p q)))
  where
    zeros : (a b : Bool) → (a && b) ≡ false → (s : Bool) → ((a && b) && s) ≡ false
    zeros a b e s = ap (λ (x : Bool). x && s) e

    nothing : (s : Bool) → ((nat_le 1 q && nat_le q 0) && s) ≡ false
    nothing s = zeros (nat_le 1 q) (nat_le q 0) (grind (arith, nat_tests)) s
row_found test f p (suc n) q is =
    ap (find test) (rows_step f p n)
    ∙ found_by test f p n q (p (suc n)) (rows f p n) refl (is (suc n) (omega arith) (omega arith))
    (row_found test f p n q (λ k low high. is k low (omega arith)))

none_by : {A : Type 0} (test : A → Bool) (b : Bool) (xs : List A) (x : A) → (b ≡ true → test x ≡ false)
    → find test xs ≡ None → find test (if b then xs ++ x ∷ [] else xs) ≡ None
none_by {A} test true xs x here e = find-append test xs (x ∷ [])
    ∙ ap₂ (λ (o : Option A) (t : Bool). option_or o (cond t (Some x) None)) e (here refl)
none_by test false xs x here e = e

-- no row passes
pub none_found : {A : Type 0} (test : A → Bool) (f : ℕ → A) (p : ℕ → Bool) (n : ℕ)
    → ((k : ℕ) → 1 ≤ k → k ≤ n → p k ≡ true → test (f k) ≡ false) → find test (rows f p n) ≡ None
none_found test f p zero is = refl
none_found test f p (suc n) is =
    ap (find test) (rows_step f p n)
    ∙ none_by test (p (suc n)) (rows f p n) (f (suc n)) (is (suc n) (omega arith) (omega arith))
    (none_found test f p n (λ k low high. is k low (omega arith)))

any_found : {A : Type 0} (test : A → Bool) (xs : List A) (o : Option A) (b : Bool)
    → find test xs ≡ (if b then o else None) → is_some o ≡ true → list_any test xs ≡ b
any_found test [] o true e some = absurd (none_is o some e)
  where
    none_is : {A : Type 0} (o : Option A) → is_some o ≡ true → None ≡ o → ⊥
    none_is None s e = cc
    none_is (Some x) s e = cc
any_found test [] o false e some = refl
any_found {A} test (x ∷ xs) o b e some = by (test x) (any_found test xs o b) e
  where
    seen : (b : Bool) → Some x ≡ (if b then o else None) → true ≡ b
    seen true e = refl
    seen false e = absurd (cc)

    by : (t : Bool) → (find test xs ≡ (if b then o else None) → is_some o ≡ true → list_any test xs ≡ b)
        → cond t (Some x) (find test xs) ≡ (if b then o else None) → (t || list_any test xs) ≡ b
    by true more e = seen b e
    by false more e = more e some

-- some row passes a test that holds of number q and of no other
pub row_among : {A : Type 0} (test : A → Bool) (f : ℕ → A) (p : ℕ → Bool) (n q : ℕ)
    → ((k : ℕ) → 1 ≤ k → k ≤ n → p k ≡ true → test (f k) ≡ (q == k))
    → list_any test (rows f p n) ≡ picked p n q
row_among test f p n q is = any_found test (rows f p n) (Some (f q)) (picked p n q) (row_found test f p n q is) refl

-- a picked number stands below, and is one of those that are picked
pub picked_given : (p : ℕ → Bool) (n q : ℕ) → 1 ≤ q → q ≤ n → picked p n q ≡ p q
picked_given p n q a b = ap₂ (λ (x y : Bool). (x && y) && p q) (le-leb 1 q a) (le-leb q n b)
