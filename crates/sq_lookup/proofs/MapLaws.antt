-- Maps by number, and by key.
use Rattle.std.proofs.Common.{◌≡◌, ◌∙◌, ◌==◌, cond, true, false, ℕ, List, [], ◌∷◌, Option, None, Some, refl, ap, sym, arith}
use Rattle.std.specs.BTreeMap.{is_at, insert_entry}
use Rattle.std.specs.Map.{lookup, remove_entry}
use Rattle.std.specs.Ordering.{nat_cmp, is_eq}
use Rattle.std.specs.declared.cmp.Ordering.TheVariants.{Less, Equal, Greater}
use Rattle.std.specs.Cmp.Lexicographic.{slice_cmp, same_text}
use Rattle.std.proofs.lemmas.Map.Text.{is_eq-slice_cmp}
use Rattle.sq_machine.specs.KeptLists.{same_key}
use Rattle.sq_lookup.proofs.CheckLaws.{same_number, other_number}

-- for equal numbers
pub number_is : (a b : ℕ) → (a == b) ≡ true → a ≡ b
number_is a b h = grind (arith, h)

pub self_number : (a : ℕ) → (a == a) ≡ true
self_number a = grind arith

-- for a look-up by number: the map's, with the plain test
pub number_found : {X : Type 0} (n : ℕ) (es : List (ℕ × X)) → lookup (λ m. n == m) es ≡ lookup (is_at (nat_cmp n)) es
number_found n [] = refl
number_found n (e ∷ es) = rw (same_number n e.0) (ap (λ o. cond (n == e.0) (Some e.1) o) (number_found n es))

-- for a map by number after one number changed
pub number_after : {X : Type 0} (n k : ℕ) (w : Option X) (before after : List (ℕ × X))
    → lookup (is_at (nat_cmp n)) after ≡ cond (is_at (nat_cmp k) n) w (lookup (is_at (nat_cmp n)) before)
    → lookup (λ m. n == m) after ≡ cond (n == k) w (lookup (λ m. n == m) before)
number_after n k w before after h =
    number_found n after ∙ h ∙ ap (λ b. cond b w (lookup (is_at (nat_cmp n)) before)) (other_number k n)
    ∙ ap (λ o. cond (n == k) w o) (sym (number_found n before))

-- for a removal by number, with the plain test
pub number_removed : {X : Type 0} (n : ℕ) (es : List (ℕ × X))
    → remove_entry (is_at (nat_cmp n)) es ≡ remove_entry (λ m. n == m) es
number_removed n [] = refl
number_removed n (e ∷ es) = rw (same_number n e.0) (ap (λ l. cond (n == e.0) es (e ∷ l)) (number_removed n es))

-- for an insertion that is undone
pub put_undone : {X : Type 0} (k : ℕ) (v : X) (es : List (ℕ × X)) → lookup (λ m. k == m) es ≡ None
    → remove_entry (λ m. k == m) (insert_entry nat_cmp es k v) ≡ es
put_undone k v [] h = rw (self_number k) refl
put_undone {X} k v (e ∷ es) h = (elim (nat_cmp k e.0) as
    (λ y. nat_cmp k e.0 ≡ y → remove_entry (λ m. k == m) (insert_entry nat_cmp (e ∷ es) k v) ≡ e ∷ es) [
      | Less ↦ λ t. rw (t, self_number k) refl
      | Equal ↦ λ t. let hit : (k == e.0) ≡ true = sym (same_number k e.0) ∙ ap is_eq t in let h' = rw hit at h in cc
      | Greater ↦ λ t. let miss : (k == e.0) ≡ false = sym (same_number k e.0) ∙ ap is_eq t in
          rw (t, miss) (ap (λ l. e ∷ l) (put_undone k v es (rw miss at h)))
    ]) refl

pub same_again : (a : List ℕ) → same_key a a ≡ true
same_again [] = refl
same_again (x ∷ xs) = rw (self_number x, same_again xs) refl

-- for an insertion by key that is undone
pub key_undone : {X : Type 0} (key : List ℕ) (v : X) (es : List (List ℕ × X)) → lookup (λ k. same_key key k) es ≡ None
    → remove_entry (λ k. same_key key k) (insert_entry (slice_cmp nat_cmp) es key v) ≡ es
key_undone key v [] h = rw (same_again key) refl
key_undone {X} key v (e ∷ es) h = (elim (slice_cmp nat_cmp key e.0) as
    (λ y. slice_cmp nat_cmp key e.0 ≡ y
    → remove_entry (λ k. same_key key k) (insert_entry (slice_cmp nat_cmp) (e ∷ es) key v) ≡ e ∷ es) [
      | Less ↦ λ t. rw (t, same_again key) refl
      | Equal ↦ λ t. let hit : same_key key e.0 ≡ true = sym (is_eq-slice_cmp key e.0) ∙ ap is_eq t in
          let h' = rw hit at h in cc
      | Greater ↦ λ t. let miss : same_key key e.0 ≡ false = sym (is_eq-slice_cmp key e.0) ∙ ap is_eq t in
          rw (t, miss) (ap (λ l. e ∷ l) (key_undone key v es (rw miss at h)))
    ]) refl

-- for a removal by key, with the plain test
pub key_removed : {X : Type 0} (key : List ℕ) (es : List (List ℕ × X))
    → remove_entry (is_at (slice_cmp nat_cmp key)) es ≡ remove_entry (λ k. same_key key k) es
key_removed key [] = refl
key_removed key (e ∷ es) = rw (is_eq-slice_cmp key e.0)
    (ap (λ l. cond (same_key key e.0) es (e ∷ l)) (key_removed key es))

-- for a look-up by key: the map's, with the plain test
pub key_found : {X : Type 0} (key : List ℕ) (es : List (List ℕ × X))
    → lookup (λ k. same_key key k) es ≡ lookup (is_at (slice_cmp nat_cmp key)) es
key_found key [] = refl
key_found key (e ∷ es) = rw (is_eq-slice_cmp key e.0)
    (ap (λ o. cond (same_key key e.0) (Some e.1) o) (key_found key es))

-- for equal keys
pub key_is : (a b : List ℕ) → same_key a b ≡ true → a ≡ b
key_is a b h = same_text a b (sym h)

pub turned : (a b : List ℕ) → same_key a b ≡ same_key b a
turned a b = (elim (same_key a b) as (λ y. same_key a b ≡ y → same_key a b ≡ same_key b a) [
  | true ↦ λ t. rw (key_is a b t) refl
  | false ↦ λ t. (elim (same_key b a) as (λ y. same_key b a ≡ y → same_key a b ≡ same_key b a) [
    | true ↦ λ u. rw (key_is b a u) refl
    | false ↦ λ u. t ∙ sym u
  ]) refl
]) refl

-- for a map by key after one key changed
pub key_after : {X : Type 0} (k key : List ℕ) (w : Option X) (before after : List (List ℕ × X))
    → lookup (is_at (slice_cmp nat_cmp k)) after
    ≡ cond (is_at (slice_cmp nat_cmp key) k) w (lookup (is_at (slice_cmp nat_cmp k)) before)
    → lookup (λ m. same_key k m) after ≡ cond (same_key k key) w (lookup (λ m. same_key k m) before)
key_after k key w before after h =
    key_found k after ∙ h ∙ ap (λ b. cond b w (lookup (is_at (slice_cmp nat_cmp k)) before))
    (is_eq-slice_cmp key k ∙ turned key k)
    ∙ ap (λ o. cond (same_key k key) w o) (sym (key_found k before))
