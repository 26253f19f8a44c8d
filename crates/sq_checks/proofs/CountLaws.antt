-- Rows of counts, none of which is 0.
use Rattle.std.proofs.Common.{◌≡◌, ◌<◌, ℕ, List, [], Bool, true, false, cond, Some, None, sym, ◌∙◌, arith}
use Rattle.std.specs.Ordering.{nat_cmp, is_eq}
use Rattle.std.specs.declared.option.Option.{Option}
use Rattle.sq_checks.specs.Counts.{HasNoZeros}
use Rattle.sq_checks.specs.Tables.{value_at}

-- a table without rows has none
pub none_at_first : HasNoZeros []
none_at_first k e = cc

put_here : (here : Bool) (v : ℕ) (o : Option ℕ) → 0 < v → (o ≡ Some 0 → ⊥) → cond here (Some v) o ≡ Some 0 → ⊥
put_here true v o some p e = let zero : v ≡ 0 = cc in absurd (omega (arith, some, zero))
put_here false v o some p e = p e

-- a row that is put or changed has a count
pub none_put : (old new : List (ℕ × ℕ)) (n v : ℕ) → 0 < v → HasNoZeros old
    → ((c : ℕ) → value_at new c ≡ cond (is_eq (nat_cmp n c)) (Some v) (value_at old c)) → HasNoZeros new
none_put old new n v some p is k e = put_here (is_eq (nat_cmp n k)) v (value_at old k) some (p k) (sym (is k) ∙ e)

take_here : (here : Bool) (o : Option ℕ) → (o ≡ Some 0 → ⊥) → cond here None o ≡ Some 0 → ⊥
take_here true o p e = cc
take_here false o p e = p e

-- a row that is taken away is none
pub none_removed : (old new : List (ℕ × ℕ)) (n : ℕ) → HasNoZeros old
    → ((c : ℕ) → value_at new c ≡ cond (is_eq (nat_cmp n c)) None (value_at old c)) → HasNoZeros new
none_removed old new n p is k e = take_here (is_eq (nat_cmp n k)) (value_at old k) (p k) (sym (is k) ∙ e)
