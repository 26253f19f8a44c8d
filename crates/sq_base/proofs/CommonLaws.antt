-- Small laws of tests, of values that may be none, and of texts, which proofs of several crates cite.
use Rattle.std.proofs.Common.{◌≡◌, ℕ, ◌+◌, ◌<◌, List, [], ◌∷◌, length, get_or, drop, drop-cons, add-one, Bool, true, false, ◌&&◌, ◌==◌, if◌then◌else◌, Some, None, ◌⊎◌, inl, inr, refl, arith}
use Rattle.std.specs.Option.{option_map, option_and_then}
use Rattle.std.specs.Str.{bytes_eq}
use Rattle.std.specs.declared.option.Option.{Option}

-- of two tests the second is changed for one that follows from it
pub and_then_so : (a b c : Bool) → (a && b) ≡ true → (b ≡ true → c ≡ true) → (a && c) ≡ true
and_then_so true b c h k = k h
and_then_so false b c h k = h

-- what a value behind a test says: the test held
pub if_some : {A : Type 0} (t : Bool) (x : Option A) (w : A) → (if t then x else None) ≡ Some w
    → (t ≡ true) × (x ≡ Some w)
if_some true x w e = (refl, e)
if_some false x w e = absurd (cc)

-- the same of two tests
pub if_both_some : {A : Type 0} (a b : Bool) (x w : A) → (if a && b then Some x else None) ≡ Some w
    → (a ≡ true) × (b ≡ true) × (x ≡ w)
if_both_some true true x w e = (refl, refl, cc)
if_both_some true false x w e = absurd (cc)
if_both_some false b x w e = absurd (cc)

-- a value is left out where the second of two tests fails
pub left_out : {A : Type 0} (a b : Bool) (x : A) → b ≡ false → (if a && b then Some x else None) ≡ None
left_out true b x e = rw e refl
left_out false b x e = refl

-- which of two values a test chose
pub chosen : {A : Type 0} (t : Bool) (x y z : A) → (if t then x else y) ≡ z
    → ((t ≡ true) × (x ≡ z)) ⊎ ((t ≡ false) × (y ≡ z))
chosen true x y z e = inl (refl, e)
chosen false x y z e = inr (refl, e)

-- what a mapped value was mapped from
pub map_some : {A B : Type 0} (f : A → B) (o : Option A) (w : B) → option_map f o ≡ Some w
    → (x : A) × (o ≡ Some x) × (w ≡ f x)
map_some f None w e = absurd (cc)
map_some f (Some x) w e = (x, refl, cc)

-- what the second of two steps began with
pub then_some : {A B : Type 0} (f : A → Option B) (o : Option A) (w : B) → option_and_then f o ≡ Some w
    → (x : A) × (o ≡ Some x) × (f x ≡ Some w)
then_some f None w e = absurd (cc)
then_some f (Some x) w e = (x, refl, e)

-- a test of two numbers, and one of two texts, is the same the other way round
pub eq_turned : (a b : ℕ) → (a == b) ≡ (b == a)
eq_turned a b = grind arith

-- two texts are compared alike from either side
pub bytes_turned : (a b : List ℕ) → bytes_eq a b ≡ bytes_eq b a
bytes_turned [] [] = refl
bytes_turned [] (y ∷ ys) = refl
bytes_turned (x ∷ xs) [] = refl
bytes_turned (x ∷ xs) (y ∷ ys) = rw (eq_turned x y, bytes_turned xs ys) refl

-- a byte of a text, and what follows it
pub cons_at : (text : List ℕ) (i b : ℕ) → i < length text → get_or text i 0 ≡ b → drop i text ≡ b ∷ drop (i + 1) text
cons_at text i b h e = rw (add-one, drop-cons text i 0, e)
