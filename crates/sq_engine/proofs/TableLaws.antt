-- What stands at a number in the open checks after a change of them, and in their rows.
use Rattle.std.proofs.Common.{◌≡◌, ◌∙◌, ◌==◌, ◌&&◌, ℕ, List, [], ◌∷◌, ◌++◌, Bool, true, false, nat_lt, Option, None, Some, refl, ap, sym, arith}
use Rattle.std.specs.Option.{option_map}
use Rattle.std.specs.Ordering.{is_eq, nat_cmp}
use Rattle.sq_base.specs.declared.helpers.What.{What}
use Rattle.sq_model.specs.CheckRows.{held_at}
use Rattle.sq_checks.specs.OpenChecks.{CheckParts, all_before, all_ended, change_at, ended_by, row, rows_of, without_entry}
use Rattle.sq_checks.specs.Tables.{value_at}

-- a number is looked for by its test
pub same_key : (a b : ℕ) → is_eq (nat_cmp a b) ≡ (a == b)
same_key a b = grind arith

pub number_is : (a b : ℕ) → (a == b) ≡ true → a ≡ b
number_is a b h = grind (arith, h)

pub number_self : (a : ℕ) → (a == a) ≡ true
number_self a = grind arith

pub number_sym : (a b : ℕ) → (a == b) ≡ (b == a)
number_sym a b = grind arith

apart : (a b c : ℕ) → (a == c) ≡ true → (b == c) ≡ false → (a == b) ≡ false
apart a b c x y = grind (arith, x, y)

apart_left : (a b c : ℕ) → (a == c) ≡ false → (b == c) ≡ true → (a == b) ≡ false
apart_left a b c x y = grind (arith, x, y)

together : (a b c : ℕ) → (a == c) ≡ true → (b == c) ≡ true → (a == b) ≡ true
together a b c x y = grind (arith, x, y)

-- changed where the test holds
abbrev pub mapped_if : {A : Type 0} → Bool → (A → A) → Option A → Option A
mapped_if true f o = option_map f o
mapped_if false f o = o

-- none where the test holds
abbrev pub none_if : {A : Type 0} → Bool → Option A → Option A
none_if true o = None
none_if false o = o

mapped_none : {A : Type 0} (b : Bool) (f : A → A) → mapped_if b f None ≡ None
mapped_none true f = refl
mapped_none false f = refl

none_none : {A : Type 0} (b : Bool) → none_if {A = A} b None ≡ None
none_none true = refl
none_none false = refl

-- what stands at a number, where check m was changed
pub changed_at : (m n : ℕ) (f : CheckParts → CheckParts) (es : List (ℕ × CheckParts))
    → value_at (change_at m f es) n ≡ mapped_if (m == n) f (value_at es n)
changed_at m n f [] = sym (mapped_none (m == n) f)
changed_at m n f (e ∷ es) = by (m == e.0) (n == e.0) refl refl (changed_at m n f es)
  where
    by : (s t : Bool) → (m == e.0) ≡ s → (n == e.0) ≡ t
        → value_at (change_at m f es) n ≡ mapped_if (m == n) f (value_at es n)
        → value_at (change_at m f (e ∷ es)) n ≡ mapped_if (m == n) f (value_at (e ∷ es) n)
    by true true x y more = rw (x, same_key n e.0, y, together m n e.0 x y) refl
    by true false x y more = rw (x, same_key n e.0, y) more
    by false true x y more = rw (x, same_key n e.0, y, apart_left m n e.0 x y) refl
    by false false x y more = rw (x, same_key n e.0, y) more

both_none : {A : Type 0} (b : Bool) (o p : Option A) → b ≡ true → none_if b o ≡ none_if b p
both_none true o p e = refl
both_none false o p e = absurd (cc)

-- what stands at a number, where check m was taken out
pub removed_at : (m n : ℕ) (es : List (ℕ × CheckParts))
    → value_at (without_entry m es) n ≡ none_if (m == n) (value_at es n)
removed_at m n [] = sym (none_none (m == n))
removed_at m n (e ∷ es) = by (m == e.0) (n == e.0) refl refl (removed_at m n es)
  where
    by : (s t : Bool) → (m == e.0) ≡ s → (n == e.0) ≡ t
        → value_at (without_entry m es) n ≡ none_if (m == n) (value_at es n)
        → value_at (without_entry m (e ∷ es)) n ≡ none_if (m == n) (value_at (e ∷ es) n)
    by true true x y more = rw x
        (more ∙ both_none (m == n) (value_at es n) (value_at (e ∷ es) n) (together m n e.0 x y))
    by true false x y more = rw (x, same_key n e.0, y) more
    by false true x y more = rw (x, same_key n e.0, y, apart_left m n e.0 x y) refl
    by false false x y more = rw (x, same_key n e.0, y) more

left : (a b : Bool) → (a && b) ≡ true → a ≡ true
left true b h = refl
left false b h = cc

right : (a b : Bool) → (a && b) ≡ true → b ≡ true
right true b h = h
right false b h = absurd cc

below_other : (a n : ℕ) → nat_lt a n ≡ true → (n == a) ≡ false
below_other a n h = grind (arith, h)

-- nothing stands at a number above all
pub none_above : (n : ℕ) (es : List (ℕ × CheckParts)) → all_before n (rows_of es) ≡ true → value_at es n ≡ None
none_above n [] h = refl
none_above n (e ∷ es) h =
    rw (same_key n e.0, below_other e.0 n (left (nat_lt e.0 n) (all_before n (rows_of es)) h))
    (none_above n es (right (nat_lt e.0 n) (all_before n (rows_of es)) h))

-- the value, or the other where there is none
abbrev pub or_this : {A : Type 0} → Option A → Option A → Option A
or_this None o = o
or_this (Some a) o = Some a

abbrev pub some_if : {A : Type 0} → Bool → A → Option A
some_if true a = Some a
some_if false a = None

-- what stands at a number, where a check was put behind the others
pub added_at : (m n : ℕ) (k : CheckParts) (es : List (ℕ × CheckParts))
    → value_at (es ++ (m, k) ∷ []) n ≡ or_this (value_at es n) (some_if (n == m) k)
added_at m n k [] = by (n == m) refl
  where
    by : (b : Bool) → (n == m) ≡ b → value_at ((m, k) ∷ []) n ≡ some_if (n == m) k
    by true x = rw (same_key n m, x) refl
    by false x = rw (same_key n m, x) refl
added_at m n k (e ∷ es) = by (n == e.0) refl (added_at m n k es)
  where
    by : (b : Bool) → (n == e.0) ≡ b → value_at (es ++ (m, k) ∷ []) n ≡ or_this (value_at es n) (some_if (n == m) k)
        → value_at (e ∷ (es ++ (m, k) ∷ [])) n ≡ or_this (value_at (e ∷ es) n) (some_if (n == m) k)
    by true x more = rw (same_key n e.0, x) refl
    by false x more = rw (same_key n e.0, x) more

-- what stands at a number after the end of a question
pub ended_at : (q : ℕ) (w : What) (now n : ℕ) (es : List (ℕ × CheckParts))
    → value_at (all_ended q w now es) n ≡ option_map (ended_by q w now) (value_at es n)
ended_at q w now n [] = refl
ended_at q w now n (e ∷ es) = by (n == e.0) refl (ended_at q w now n es)
  where
    by : (b : Bool) → (n == e.0) ≡ b → value_at (all_ended q w now es) n ≡ option_map (ended_by q w now) (value_at es n)
        → value_at (all_ended q w now (e ∷ es)) n ≡ option_map (ended_by q w now) (value_at (e ∷ es) n)
    by true x more = rw (same_key n e.0, x) refl
    by false x more = rw (same_key n e.0, x) more

-- a check's row is found by its number
pub row_at_number : (n : ℕ) (es : List (ℕ × CheckParts)) → held_at n (rows_of es) ≡ option_map (row n) (value_at es n)
row_at_number n [] = refl
row_at_number n (e ∷ es) = by (n == e.0) refl (row_at_number n es)
  where
    by : (b : Bool) → (n == e.0) ≡ b → held_at n (rows_of es) ≡ option_map (row n) (value_at es n)
        → held_at n (rows_of (e ∷ es)) ≡ option_map (row n) (value_at (e ∷ es) n)
    by true x more = rw (same_key n e.0, x) (ap (λ k. Some (row k e.1)) (sym (number_is n e.0 x)))
    by false x more = rw (same_key n e.0, x) more
