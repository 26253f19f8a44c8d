-- A value of a table, changed in its place.
use Rattle.std.proofs.Common.{◌≡◌, ℕ, List, [], ◌∷◌, Bool, true, false, cond, Some, is_some, refl, ◌∙◌, arith, ◌==◌}
use Rattle.std.specs.Map.{lookup, set_value}
use Rattle.std.specs.Ordering.{nat_cmp, is_eq}
use Rattle.std.specs.declared.option.Option.{Option}
use Rattle.sq_checks.specs.Tables.{value_at}

pub same_key : (a b : ℕ) → is_eq (nat_cmp a b) ≡ (a == b)
same_key a b = grind arith

-- the front entry is the one that is changed, or another
abbrev IsChanged : {A : Type 0} → Bool → Bool → Bool → A → A → Option A → Option A → Type 0
IsChanged here there same x v old new = cond there (Some (cond here v x)) new
    ≡ cond same (Some v) (cond there (Some x) old)

stepped : {A : Type 0} (here there same : Bool) (x v : A) (old new : Option A) → (here ≡ true → same ≡ there)
    → (here ≡ false → there ≡ true → same ≡ false)
    → (here ≡ true → new ≡ old) → (here ≡ false → new ≡ cond same (Some v) old) → IsChanged here there same x v old new
stepped true true same x v old new p q r s = rw (p refl) refl
stepped true false same x v old new p q r s = rw (p refl) (r refl)
stepped false true same x v old new p q r s = rw (q refl refl) refl
stepped false false same x v old new p q r s = s refl

-- what stands in an entry's place
place_in : {A : Type 0} (here : Bool) (k j : ℕ) (x v : A) (es fs : List (ℕ × A))
    → lookup (λ i. is_eq (nat_cmp k i)) (cond here ((j, v) ∷ es) ((j, x) ∷ fs))
    ≡ cond (is_eq (nat_cmp k j)) (Some (cond here v x)) (lookup (λ i. is_eq (nat_cmp k i)) (cond here es fs))
place_in true k j x v es fs = refl
place_in false k j x v es fs = refl

there_is : {A : Type 0} (here : Bool) (x : A) (o : Option A) → here ≡ false → is_some (cond here (Some x) o) ≡ true
    → is_some o ≡ true
there_is true x o e p = cc
there_is false x o e p = p

rest_is : {A : Type 0} (here : Bool) (k : ℕ) (es fs : List (ℕ × A))
    → (here ≡ true → lookup (λ i. is_eq (nat_cmp k i)) (cond here es fs) ≡ lookup (λ i. is_eq (nat_cmp k i)) es)
rest_is true k es fs = λ e. refl
rest_is false k es fs = λ e. cc

behind : {A : Type 0} (here : Bool) (k : ℕ) (es fs : List (ℕ × A)) (o : Option A)
    → (here ≡ false → lookup (λ i. is_eq (nat_cmp k i)) fs ≡ o)
    → here ≡ false → lookup (λ i. is_eq (nat_cmp k i)) (cond here es fs) ≡ o
behind true k es fs o p e = cc
behind false k es fs o p e = p e

-- changing the value of a number leaves those of the others
pub changed : {A : Type 0} (entries : List (ℕ × A)) (n k : ℕ) (v : A) → is_some (value_at entries n) ≡ true
    → value_at (set_value (λ j. is_eq (nat_cmp n j)) entries v) k
    ≡ cond (is_eq (nat_cmp n k)) (Some v) (value_at entries k)
changed [] n k v there = cc
changed ((j, x) ∷ es) n k v there =
    let here = is_eq (nat_cmp n j) in
    let fs = set_value (λ i. is_eq (nat_cmp n i)) es v in
    let same : (here ≡ true) → is_eq (nat_cmp n k) ≡ is_eq (nat_cmp k j) = λ e. grind arith in
    let other : (here ≡ false) → is_eq (nat_cmp k j) ≡ true → is_eq (nat_cmp n k) ≡ false = λ e f. grind arith in
    place_in here k j x v es fs
    ∙ stepped here (is_eq (nat_cmp k j)) (is_eq (nat_cmp n k)) x v (value_at es k)
    (lookup (λ i. is_eq (nat_cmp k i)) (cond here es fs)) same other
    (rest_is here k es fs) (behind here k es fs _ (λ e. changed es n k v (there_is here x (value_at es n) e there)))
