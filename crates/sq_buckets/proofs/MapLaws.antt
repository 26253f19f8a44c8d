-- Ordered maps by keys whose order and whose test tell the same keys apart.
use Rattle.std.proofs.Common.{◌≡◌, ◌∙◌, ◌==◌, cond, Bool, true, false, ℕ, List, [], ◌∷◌, Option, None, Some, bytes_eq, refl, ap, sym, arith}
use Rattle.std.specs.BTreeMap.{is_at, insert_entry}
use Rattle.std.specs.Map.{lookup, remove_entry}
use Rattle.std.specs.Ordering.{nat_cmp, is_eq}
use Rattle.std.specs.declared.cmp.Ordering.{Ordering}
use Rattle.std.specs.declared.cmp.Ordering.TheVariants.{Less, Equal, Greater}
use Rattle.std.specs.Cmp.Lexicographic.{slice_cmp}
use Rattle.std.proofs.lemmas.Bool.Decides.{nat_tests}
use Rattle.std.proofs.lemmas.Map.Text.{is_eq-slice_cmp}
use Rattle.sq_machine.specs.PoolReadings.{BucketSpot, is_spot}
use Rattle.sq_buckets.specs.contracts.spots.BucketSpotOrd as ord

-- the order of keys tells them apart as the test does
pub record IsKey (K : Type 0) (cmp : K → K → Ordering) (same : K → K → Bool) : Type 0 where
  pub agrees : (a b : K) → is_eq (cmp a b) ≡ same a b
  pub itself : (a : K) → same a a ≡ true
  pub turned : (a b : K) → same a b ≡ same b a

-- for maps by number
pub number_key : IsKey ℕ nat_cmp (λ a b. a == b)
number_key = record { agrees = λ a b. grind arith; itself = λ a. grind arith; turned = λ a b. grind (arith, nat_tests) }

same_bytes : (a : List ℕ) → bytes_eq a a ≡ true
same_bytes [] = refl
same_bytes (x ∷ xs) = let one : (x == x) ≡ true = grind arith in rw (one, same_bytes xs) refl

turned_bytes : (a b : List ℕ) → bytes_eq a b ≡ bytes_eq b a
turned_bytes [] [] = refl
turned_bytes [] (y ∷ ys) = refl
turned_bytes (x ∷ xs) [] = refl
turned_bytes (x ∷ xs) (y ∷ ys) =
    let one : (x == y) ≡ (y == x) = grind (arith, nat_tests) in rw (one, turned_bytes xs ys) refl

-- for maps by the names of buckets
pub spot_key : IsKey BucketSpot ord.TheImpl.cmp-value.it is_spot
spot_key = record {
  agrees = λ a b.
      let tags : is_eq (slice_cmp nat_cmp a.tag b.tag) ≡ bytes_eq a.tag b.tag = is_eq-slice_cmp a.tag b.tag in
      grind (arith, nat_tests, tags);
  itself = λ a. let tags : bytes_eq a.tag a.tag ≡ true = same_bytes a.tag in grind (arith, nat_tests, tags);
  turned = λ a b. let tags : bytes_eq a.tag b.tag ≡ bytes_eq b.tag a.tag = turned_bytes a.tag b.tag in
      grind (arith, nat_tests, tags);
}

-- for a look-up: the map's, with the plain test
pub found : {K X : Type 0} (cmp : K → K → Ordering) (same : K → K → Bool) (key : IsKey K cmp same) (k : K)
    (es : List (K × X))
    → lookup (λ m. same k m) es ≡ lookup (is_at (cmp k)) es
found cmp same key k [] = refl
found cmp same key k (e ∷ es) = rw (key.agrees k e.0)
    (ap (λ o. cond (same k e.0) (Some e.1) o) (found cmp same key k es))

-- for a map after one key changed
pub after : {K X : Type 0} (cmp : K → K → Ordering) (same : K → K → Bool) (key : IsKey K cmp same) (n k : K)
    (w : Option X) (es fs : List (K × X))
    → lookup (is_at (cmp n)) fs ≡ cond (is_at (cmp k) n) w (lookup (is_at (cmp n)) es)
    → lookup (λ m. same n m) fs ≡ cond (same n k) w (lookup (λ m. same n m) es)
after cmp same key n k w es fs h =
    found cmp same key n fs ∙ h ∙ ap (λ b. cond b w (lookup (is_at (cmp n)) es)) (key.agrees k n ∙ key.turned k n)
    ∙ ap (λ o. cond (same n k) w o) (sym (found cmp same key n es))

-- for a removal, with the plain test
pub removed : {K X : Type 0} (cmp : K → K → Ordering) (same : K → K → Bool) (key : IsKey K cmp same) (k : K)
    (es : List (K × X))
    → remove_entry (is_at (cmp k)) es ≡ remove_entry (λ m. same k m) es
removed cmp same key k [] = refl
removed cmp same key k (e ∷ es) = rw (key.agrees k e.0)
    (ap (λ l. cond (same k e.0) es (e ∷ l)) (removed cmp same key k es))

-- for an insertion that is undone
pub put_undone : {K X : Type 0} (cmp : K → K → Ordering) (same : K → K → Bool) (key : IsKey K cmp same) (k : K) (v : X)
    (es : List (K × X))
    → lookup (λ m. same k m) es ≡ None → remove_entry (λ m. same k m) (insert_entry cmp es k v) ≡ es
put_undone cmp same key k v [] h = rw (key.itself k) refl
put_undone cmp same key k v (e ∷ es) h = (elim (cmp k e.0) as
    (λ y. cmp k e.0 ≡ y → remove_entry (λ m. same k m) (insert_entry cmp (e ∷ es) k v) ≡ e ∷ es) [
      | Less ↦ λ t. rw (t, key.itself k) refl
      | Equal ↦ λ t. let hit : same k e.0 ≡ true = sym (key.agrees k e.0) ∙ ap is_eq t in let h' = rw hit at h in cc
      | Greater ↦ λ t. let miss : same k e.0 ≡ false = sym (key.agrees k e.0) ∙ ap is_eq t in
          rw (t, miss) (ap (λ l. e ∷ l) (put_undone cmp same key k v es (rw miss at h)))
    ]) refl

-- for a number that is the key or not
pub by_key : (e k : ℕ) (P : ℕ → Bool → Type 0) → P k true → ((e == k) ≡ false → P e false) → P e (e == k)
by_key e k P same other = (elim (e == k) as (λ y. (e == k) ≡ y → P e y) [
  | true ↦ λ t. let is : e ≡ k = grind (arith, nat_tests, t) in rw is same
  | false ↦ λ t. other t
]) refl

-- for a key whose value stays
pub same_there : {A : Type 0} (e k : ℕ) (f : ℕ → A) (v : A) → v ≡ f k → cond (e == k) v (f e) ≡ f e
same_there e k f v h = by_key e k (λ n b. cond b v (f n) ≡ f n) h (λ t. refl)
