-- What a change of the map of open checks makes of its entries and of the rows.
use Rattle.std.proofs.Common.{◌≡◌, ◌∙◌, ◌==◌, ◌&&◌, ◌<◌, Bool, true, false, ℕ, List, [], ◌∷◌, ◌++◌, None, Some, if◌then◌else◌, map, nat_lt, refl, ap, sym, subst, arith}
use Rattle.std.specs.BTreeMap.{is_at, insert_entry}
use Rattle.std.specs.List.{IsDistinct, AllByRecursion}
use Rattle.std.specs.List.Sorted.{IsStrictlySortedBy}
use Rattle.std.specs.Map.{remove_entry, set_value, keys_of}
use Rattle.std.specs.Ordering.{nat_cmp, eq_by_cmp}
use Rattle.std.specs.declared.cmp.Ordering.TheVariants.{Less, Equal, Greater}
use Rattle.std.proofs.lemmas.Map.Keys.{IsDistinct-from_sorted}
use Rattle.sq_machine.specs.Rising.{AreAbove, Rises}
use Rattle.sq_model.specs.CheckRows.{Held, without_check}
use Rattle.sq_checks.specs.OpenChecks.{CheckParts, all_before, change_at, entry_row, row, rows_of, without_entry}
use Rattle.sq_checks.specs.Tables.{value_at, without}
use Rattle.sq_checks.proofs.TableLaws.{same_key}

-- for equal numbers
pub number_is : (a b : ℕ) → (a == b) ≡ true → a ≡ b
number_is a b h = grind (arith, h)

-- for a number and itself
pub self_number : (a : ℕ) → (a == a) ≡ true
self_number a = grind arith

-- no entry has the number
abbrev pub IsAbsent : {A : Type 0} → ℕ → List (ℕ × A) → Type 0
IsAbsent n [] = Unit {0}
IsAbsent n (e ∷ es) = ((n == e.0) ≡ false) × IsAbsent n es

-- each number is there once
abbrev pub AreOnce : {A : Type 0} → List (ℕ × A) → Type 0
AreOnce [] = Unit {0}
AreOnce (e ∷ es) = IsAbsent e.0 es × AreOnce es

absent_from : {A : Type 0} (n : ℕ) (es : List (ℕ × A))
    → AllByRecursion (λ k. eq_by_cmp nat_cmp n k ≡ false) (keys_of es) → IsAbsent n es
absent_from n [] h = tt
absent_from n (e ∷ es) h = (sym (same_key n e.0) ∙ h.0, absent_from n es h.1)

once_from : {A : Type 0} (es : List (ℕ × A)) → IsDistinct (eq_by_cmp nat_cmp) (keys_of es) → AreOnce es
unfolding IsDistinct
once_from [] d = tt
once_from (e ∷ es) d = (absent_from e.0 es d.0, once_from es d.1)

-- for a map: its numbers ascend, so each is there once
pub sorted_once : {A : Type 0} (es : List (ℕ × A)) → IsStrictlySortedBy nat_cmp (keys_of es) → AreOnce es
sorted_once es s = once_from es (IsDistinct-from_sorted nat_cmp (keys_of es) s)

less : (a b : ℕ) → nat_cmp a b ≡ Less → a < b
less a b h = grind (arith, h)

above_from : (n : ℕ) (es : List (ℕ × CheckParts)) → AllByRecursion (λ k. nat_cmp n k ≡ Less) (keys_of es)
    → AreAbove n (map (λ h. h.number) (rows_of es))
above_from n [] a = tt
above_from n (e ∷ es) a = (less n e.0 a.0, above_from n es a.1)

-- for a map: the numbers of the rows rise
pub sorted_rises : (es : List (ℕ × CheckParts)) → IsStrictlySortedBy nat_cmp (keys_of es)
    → Rises (map (λ h. h.number) (rows_of es))
unfolding IsStrictlySortedBy
sorted_rises [] s = tt
sorted_rises (e ∷ es) s = (above_from e.0 es s.0, sorted_rises es s.1)

-- for a number without a value
pub absent_is : {A : Type 0} (n : ℕ) (es : List (ℕ × A)) → value_at es n ≡ None → IsAbsent n es
absent_is n [] h = tt
absent_is n (e ∷ es) h = (elim (n == e.0) as (λ y. (n == e.0) ≡ y → IsAbsent n (e ∷ es)) [
  | true ↦ λ t. let h' = rw (same_key n e.0, t) at h in absurd cc
  | false ↦ λ t. (t, absent_is n es (rw (same_key n e.0, t) at h))
]) refl

-- for an insertion that is undone
pub put_undone : {A : Type 0} (k : ℕ) (v : A) (es : List (ℕ × A)) → value_at es k ≡ None
    → without k (insert_entry nat_cmp es k v) ≡ es
put_undone k v [] h = rw (same_key k k, self_number k) refl
put_undone {A} k v (e ∷ es) h = (elim (nat_cmp k e.0) as
    (λ y. nat_cmp k e.0 ≡ y → without k (insert_entry nat_cmp (e ∷ es) k v) ≡ e ∷ es) [
      | Less ↦ λ t. rw (t, same_key k k, self_number k) refl
      | Equal ↦ λ t. let h' = rw t at h in absurd cc
      | Greater ↦ λ t. rw (t, t) (ap (λ l. e ∷ l) (put_undone k v es (rw t at h)))
    ]) refl

-- for a check that is not there
pub unchanged : (n : ℕ) (f : CheckParts → CheckParts) (es : List (ℕ × CheckParts)) → IsAbsent n es
    → change_at n f es ≡ es
unchanged n f [] h = refl
unchanged n f (e ∷ es) h = rw h.0 (ap (λ l. e ∷ l) (unchanged n f es h.1))

-- for a value written back: the check is changed
pub set_changed : (n : ℕ) (f : CheckParts → CheckParts) (c : CheckParts) (es : List (ℕ × CheckParts)) → AreOnce es
    → value_at es n ≡ Some c
    → set_value (is_at (nat_cmp n)) es (f c) ≡ change_at n f es
set_changed n f c [] o h = refl
set_changed n f c (e ∷ es) o h = (elim (n == e.0) as
    (λ y. (n == e.0) ≡ y → set_value (is_at (nat_cmp n)) (e ∷ es) (f c) ≡ change_at n f (e ∷ es)) [
      | true ↦ λ t.
          let h' = rw (same_key n e.0, t) at h in
          let same : e.1 ≡ c = cc in
          let is : n ≡ e.0 = number_is n e.0 t in
          let rest : change_at n f es ≡ es = unchanged n f es (rw is o.0) in
          rw (same_key n e.0, t) (ap (λ (x : CheckParts). (e.0, f x) ∷ es) (sym same)
          ∙ ap (λ l. (e.0, f e.1) ∷ l) (sym rest))
      | false ↦ λ t. rw (same_key n e.0, t) (ap (λ l. e ∷ l) (set_changed n f c es o.1 (rw (same_key n e.0, t) at h)))
    ]) refl

-- a check that was changed is found so
pub value_changed : (n : ℕ) (f : CheckParts → CheckParts) (c : CheckParts) (es : List (ℕ × CheckParts))
    → value_at es n ≡ Some c → value_at (change_at n f es) n ≡ Some (f c)
value_changed n f c [] h = absurd cc
value_changed n f c (e ∷ es) h = (elim (n == e.0) as
    (λ y. (n == e.0) ≡ y → value_at (change_at n f (e ∷ es)) n ≡ Some (f c)) [
      | true ↦ λ t.
          let h' = rw (same_key n e.0, t) at h in
          let same : e.1 ≡ c = cc in
          rw (t, same_key n e.0, t) (ap (λ (x : CheckParts). Some (f x)) same)
      | false ↦ λ t. rw (t, same_key n e.0, t) (value_changed n f c es (rw (same_key n e.0, t) at h))
    ]) refl

rows_same : (n : ℕ) (g : Held → Held) (es : List (ℕ × CheckParts)) → IsAbsent n es
    → map (λ h. if n == h.number then g h else h) (rows_of es) ≡ rows_of es
rows_same n g [] h = refl
rows_same n g (e ∷ es) h = rw h.0 (ap (λ l. entry_row e ∷ l) (rows_same n g es h.1))

moved : (f : CheckParts → CheckParts) (g : Held → Held) (n k : ℕ) (c d : CheckParts) → n ≡ k → c ≡ d
    → row n (f c) ≡ g (row n c) → row k (f d) ≡ g (row k d)
moved f g n k c d is same r = subst (λ m. row m (f d) ≡ g (row m d)) is (subst (λ x. row n (f x) ≡ g (row n x)) same r)

-- for the rows after one check changed
pub row_changed : (n : ℕ) (f : CheckParts → CheckParts) (g : Held → Held) (c : CheckParts) (es : List (ℕ × CheckParts))
    → AreOnce es → value_at es n ≡ Some c
    → row n (f c) ≡ g (row n c) → rows_of (change_at n f es) ≡ map (λ h. if n == h.number then g h else h) (rows_of es)
row_changed n f g c [] o h r = refl
row_changed n f g c (e ∷ es) o h r = (elim (n == e.0) as
    (λ y. (n == e.0) ≡ y → rows_of (change_at n f (e ∷ es))
    ≡ map (λ h. if n == h.number then g h else h) (rows_of (e ∷ es))) [
      | true ↦ λ t.
          let h' = rw (same_key n e.0, t) at h in
          let same : c ≡ e.1 = cc in
          let is : n ≡ e.0 = number_is n e.0 t in
          let absent : IsAbsent n es = rw is o.0 in
          let here : row e.0 (f e.1) ≡ g (row e.0 e.1) = moved f g n e.0 c e.1 is same r in
          rw t (ap (λ x. x ∷ rows_of (change_at n f es)) here
          ∙ ap (λ l. g (row e.0 e.1) ∷ l) (ap rows_of (unchanged n f es absent) ∙ sym (rows_same n g es absent)))
      | false ↦ λ t. rw t (ap (λ l. entry_row e ∷ l) (row_changed n f g c es o.1 (rw (same_key n e.0, t) at h) r))
    ]) refl

-- for a change that leaves the row
pub rows_stay : (n : ℕ) (f : CheckParts → CheckParts) (es : List (ℕ × CheckParts))
    → ((k : ℕ) (c : CheckParts) → row k (f c) ≡ row k c) → rows_of (change_at n f es) ≡ rows_of es
rows_stay n f [] r = refl
rows_stay n f (e ∷ es) r = (elim (n == e.0) as
    (λ y. (n == e.0) ≡ y → rows_of (change_at n f (e ∷ es)) ≡ rows_of (e ∷ es)) [
      | true ↦ λ t. rw t (ap (λ x. x ∷ rows_of (change_at n f es)) (r e.0 e.1)
          ∙ ap (λ l. row e.0 e.1 ∷ l) (rows_stay n f es r))
      | false ↦ λ t. rw t (ap (λ l. entry_row e ∷ l) (rows_stay n f es r))
    ]) refl

left : (a b : Bool) → (a && b) ≡ true → a ≡ true
left true b h = refl
left false b h = cc

right : (a b : Bool) → (a && b) ≡ true → b ≡ true
right true b h = h
right false b h = absurd cc

greater : (a b : ℕ) → nat_lt b a ≡ true → nat_cmp a b ≡ Greater
greater a b h = (elim (nat_cmp a b) as (λ y. nat_cmp a b ≡ y → nat_cmp a b ≡ Greater) [
  | Less ↦ λ t. absurd (grind (arith, h, t))
  | Equal ↦ λ t. absurd (grind (arith, h, t))
  | Greater ↦ λ t. t
]) refl

-- for a number above all that are there
pub put_last : (n : ℕ) (c : CheckParts) (es : List (ℕ × CheckParts)) → all_before n (rows_of es) ≡ true
    → insert_entry nat_cmp es n c ≡ es ++ (n, c) ∷ []
put_last n c [] h = refl
put_last n c (e ∷ es) h =
    let below : nat_lt e.0 n ≡ true = left (nat_lt e.0 n) (all_before n (rows_of es)) h in
    rw (greater n e.0 below) (ap (λ l. e ∷ l) (put_last n c es (right (nat_lt e.0 n) (all_before n (rows_of es)) h)))

none_left : (n : ℕ) (es : List (ℕ × CheckParts)) → IsAbsent n es → without_entry n es ≡ es
none_left n [] h = refl
none_left n (e ∷ es) h = rw h.0 (ap (λ l. e ∷ l) (none_left n es h.1))

-- for a removal
pub removed_list : (n : ℕ) (es : List (ℕ × CheckParts)) → AreOnce es
    → remove_entry (is_at (nat_cmp n)) es ≡ without_entry n es
removed_list n [] o = refl
removed_list n (e ∷ es) o = (elim (n == e.0) as
    (λ y. (n == e.0) ≡ y → remove_entry (is_at (nat_cmp n)) (e ∷ es) ≡ without_entry n (e ∷ es)) [
      | true ↦ λ t. let is : n ≡ e.0 = number_is n e.0 t in rw (same_key n e.0, t) (sym (none_left n es (rw is o.0)))
      | false ↦ λ t. rw (same_key n e.0, t) (ap (λ l. e ∷ l) (removed_list n es o.1))
    ]) refl

-- for the rows after a removal
pub rows_without : (n : ℕ) (es : List (ℕ × CheckParts)) → rows_of (without_entry n es) ≡ without_check n (rows_of es)
rows_without n [] = refl
rows_without n (e ∷ es) = (elim (n == e.0) as
    (λ y. (n == e.0) ≡ y → rows_of (without_entry n (e ∷ es)) ≡ without_check n (rows_of (e ∷ es))) [
      | true ↦ λ t. rw t (rows_without n es)
      | false ↦ λ t. rw t (ap (λ l. entry_row e ∷ l) (rows_without n es))
    ]) refl
