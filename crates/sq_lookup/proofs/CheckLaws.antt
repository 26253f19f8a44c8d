-- Checks as a set, and tests of numbers.
use Rattle.std.proofs.Common.{◌≡◌, ◌∙◌, ◌==◌, ◌||◌, ◌&&◌, not, cond, Bool, true, false, ℕ, List, [], ◌∷◌, refl, ap, sym, arith}
use Rattle.std.specs.BTreeMap.{is_at}
use Rattle.std.specs.List.{list_any}
use Rattle.std.specs.Ordering.{nat_cmp, is_eq}
use Rattle.sq_lookup.specs.Waits.{has_check}

-- for tests of numbers: the order's test of a number is the plain one
pub same_number : (a b : ℕ) → is_eq (nat_cmp a b) ≡ (a == b)
same_number a b = grind arith

-- for tests of numbers: the other way round
pub other_number : (a b : ℕ) → is_eq (nat_cmp a b) ≡ (b == a)
other_number a b = grind arith

-- for sets: whether a check is among these, as the set says it
pub has_is : (n : ℕ) (checks : List ℕ) → has_check n checks ≡ list_any (is_at (nat_cmp n)) checks
has_is n [] = refl
has_is n (x ∷ xs) = rw (same_number n x) (ap (λ b. n == x || b) (has_is n xs))

cond_true : (x a : Bool) → cond x true a ≡ (x || a)
cond_true true a = refl
cond_true false a = refl

cond_false : (x a : Bool) → cond x false a ≡ (not x && a)
cond_false true a = refl
cond_false false a = refl

-- for the set after a check was put in
pub with_check : (n check : ℕ) (before after : List ℕ)
    → list_any (is_at (nat_cmp n)) after ≡ cond (is_at (nat_cmp check) n) true (list_any (is_at (nat_cmp n)) before)
    → has_check n after ≡ (n == check || has_check n before)
with_check n check before after h =
    has_is n after ∙ h ∙ ap (λ b. cond b true (list_any (is_at (nat_cmp n)) before)) (other_number check n)
    ∙ cond_true (n == check) (list_any (is_at (nat_cmp n)) before) ∙ ap (λ b. n == check || b) (sym (has_is n before))

-- for the set after a check was taken out
pub without_check : (n check : ℕ) (before after : List ℕ)
    → list_any (is_at (nat_cmp n)) after ≡ cond (is_at (nat_cmp check) n) false (list_any (is_at (nat_cmp n)) before)
    → has_check n after ≡ (not (n == check) && has_check n before)
without_check n check before after h =
    has_is n after ∙ h ∙ ap (λ b. cond b false (list_any (is_at (nat_cmp n)) before)) (other_number check n)
    ∙ cond_false (n == check) (list_any (is_at (nat_cmp n)) before)
    ∙ ap (λ b. not (n == check) && b) (sym (has_is n before))
