-- That of values in order the last one that begins up to what is looked for decides.
use mathlib.Core.Bool.{or-false}
use Rattle.std.proofs.Common.{◌≡◌, ℕ, ◌+◌, ◌-◌, ◌<◌, ◌≤◌, List, ◌++◌, ◌∷◌, [], length, get_or, take, Bool, true, false, ◌&&◌, ◌||◌, ap, ltb, arith, inl, inr, sym, ◌∙◌, refl, subst}
use Rattle.std.proofs.lemmas.Bool.{and_from, and_left, and_right, both_ways, cases_Bool, cases_eq, cases_lt, le-ltb, lt-ltb}
use Rattle.std.proofs.lemmas.List.{get_or_append_left, get_or_push, length-append}
use Rattle.std.proofs.lemmas.List.Elements.{All-from_get_or}
use Rattle.std.proofs.lemmas.List.Folds.{list_any-append, list_any_at, list_any_more, list_any_none}
use Rattle.std.specs.List.{list_any, All, AllPairs}

-- a test that cannot hold fails
pub unless : (a : Bool) → (a ≡ true → ⊥) → a ≡ false
unless true wrong = absurd (wrong refl)
unless false wrong = refl

-- where the last value before a place does not have it, none before it does
none_before : {X : Type 0} (has : X → Bool) (xs : List X) (p : ℕ) (d : X) → has (get_or xs (p - 1) d) ≡ false →
    ((i j : ℕ) → i < j → j < p → has (get_or xs i d) ≡ true → has (get_or xs j d) ≡ true) →
    (k : ℕ) → k < p → has (get_or xs k d) ≡ false
none_before has xs p d fails early k below =
    unless (has (get_or xs k d)) (λ yes. both_ways (has (get_or xs (p - 1) d)) fails
    (elim (cases_eq k (p - 1)) [
      | inl same ↦ subst (λ j. has (get_or xs j d) ≡ true) same yes
      | inr other ↦ early k (p - 1) (omega arith) (omega arith) yes
    ]))

-- no value from a place on has it; of the values before it, each has it where an earlier one has
pub decided : {X : Type 0} (has : X → Bool) (xs : List X) (p : ℕ) (d : X) → p ≤ length xs →
    ((k : ℕ) → p ≤ k → k < length xs → has (get_or xs k d) ≡ false) →
    ((i j : ℕ) → i < j → j < p → has (get_or xs i d) ≡ true → has (get_or xs j d) ≡ true) →
    list_any has xs ≡ (ltb 0 p && has (get_or xs (p - 1) d))
decided has xs p d fits late early =
    elim (cases_lt 0 p) [
      | inl some ↦ elim (cases_Bool (has (get_or xs (p - 1) d))) [
        | inl holds ↦ list_any_at has xs (p - 1) d (omega arith) holds
            ∙ sym (and_from (ltb 0 p) (has (get_or xs (p - 1) d)) (lt-ltb 0 p some) holds)
        | inr fails ↦
            list_any_none has xs (All-from_get_or (λ x. has x ≡ false) xs d (λ k within.
            elim (cases_lt k p) [
              | inl below ↦ none_before has xs p d fails early k below
              | inr past ↦ late k past within
            ]))
            ∙ sym (and_right (ltb 0 p) (has (get_or xs (p - 1) d)) fails)
      ]
      | inr none ↦
          list_any_none has xs (All-from_get_or (λ x. has x ≡ false) xs d (λ k within. late k (omega arith) within))
          ∙ sym (and_left (ltb 0 p) (has (get_or xs (p - 1) d)) (le-ltb 0 p none))
    ]

-- one more value behind values in pairs
pub pairs_push : {X : Type 0} (R : X → X → Type 0) (xs : List X) (y : X) → AllPairs R xs → All (λ x. R x y) xs
    → AllPairs R (xs ++ y ∷ [])
pairs_push R xs y pairs all = λ i j d earlier within.
    let more = length-append xs (y ∷ []) in
    let inside : i < length xs = omega (arith, more) in
    let front = get_or_append_left xs (y ∷ []) d i inside in
    elim (cases_lt j (length xs)) [
      | inl before ↦ subst (λ a. R a (get_or (xs ++ y ∷ []) j d)) (sym front)
          (subst (λ b. R (get_or xs i d) b) (sym (get_or_append_left xs (y ∷ []) d j before))
          (pairs i j d earlier before))
      | inr last ↦
          let end : length xs ≡ j = omega (arith, more) in
          subst (λ a. R a (get_or (xs ++ y ∷ []) j d)) (sym front)
          (subst (λ b. R (get_or xs i d) b) (sym (get_or_push xs y d j end)) (all i d inside))
    ]

-- one more of each list, of which both pass or neither does, as at a step of a loop
pub both_more : {X Y : Type 0} (p : X → Bool) (q : Y → Bool) (xs : List X) (x : X) (ys : List Y) (i : ℕ) (y : Y)
    → i < length ys → y ≡ get_or ys i y → p x ≡ q y → list_any p xs ≡ list_any q (take i ys)
    → list_any p (xs ++ x ∷ []) ≡ list_any q (take (i + 1) ys)
both_more p q xs x ys i y within is same so_far =
    list_any-append p xs (x ∷ []) ∙ ap (λ b. list_any p xs || b) (or-false (p x)) ∙ ap (λ a. a || p x) so_far
    ∙ ap (λ b. list_any q (take i ys) || b) (same ∙ ap q is) ∙ sym (list_any_more q ys i y within)

-- one more of the second list, which does not pass
pub none_more : {Y : Type 0} (q : Y → Bool) (ys : List Y) (i : ℕ) (y : Y) (b : Bool) → i < length ys
    → y ≡ get_or ys i y → false ≡ q y → b ≡ list_any q (take i ys) → b ≡ list_any q (take (i + 1) ys)
none_more q ys i y b within is fails so_far =
    so_far ∙ sym (or-false (list_any q (take i ys))) ∙ ap (λ c. list_any q (take i ys) || c) (fails ∙ ap q is)
    ∙ sym (list_any_more q ys i y within)
