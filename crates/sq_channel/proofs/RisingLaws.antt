-- Laws of lists of numbers that rise.
use Rattle.std.proofs.Common.{◌≡◌, ℕ, zero, suc, ◌≤◌, ◌<◌, List, [], ◌∷◌, ◌++◌, map, length, Bool, true, false, if◌then◌else◌, nat_lt, ◌==◌, refl, sym, subst, arith, ap, get_or, ◌∙◌, OnOk, OnErr, Ok, Err, IsOk, is_ok, OnSome, IsSome, Some, None}
use Rattle.std.specs.declared.option.Option.{Option}
use Rattle.std.specs.declared.result.Result.{Result}
use Rattle.std.proofs.lemmas.Bool.{lt-ltb, le-ltb, ltb-true, ltb-false}
use Rattle.std.specs.List.Sorted.{IsPartitionPoint, IsPartitionedBy}
use Rattle.std.specs.List.{insert}
use Rattle.sq_machine.specs.Rising.{AreAbove, Rises, place_among, times_of}

-- the branch of a condition that holds
pub if_true : {A : Type 0} (b : Bool) (x y : A) → b ≡ true → (if b then x else y) ≡ x
if_true true x y e = refl
if_true false x y e = cc

-- the branch of a condition that does not hold
pub if_false : {A : Type 0} (b : Bool) (x y : A) → b ≡ false → (if b then x else y) ≡ y
if_false true x y e = cc
if_false false x y e = refl

-- a call that fails only where there is no room did not fail
pub on_ok : {A B : Type 0} (r : Result A B) {P Q : Type 0} → OnOk r P → OnErr r Q → (Q → ⊥) → P
on_ok (Ok x) p q f = p
on_ok (Err e) p q f = absurd (f q)

-- what is told of a Some, where there is one
pub on_some : {A : Type 0} (o : Option A) {P : Type 0} → OnSome o P → IsSome o → P
on_some (Some x) p is = p
on_some None p is = cc

-- the branch for an Ok, where the result is one
pub if_ok : {A B C : Type 0} (r : Result A B) (x y : C) → IsOk r → (if is_ok r then x else y) ≡ x
if_ok (Ok a) x y p = refl
if_ok (Err e) x y p = cc

-- a place among numbers is at most behind the last
pub place_le : (k : ℕ) (ns : List ℕ) → place_among k ns ≤ length ns
place_le k [] = omega arith
place_le k (n ∷ ns) = by_test (nat_lt n k) (place_le k ns)
  where
    by_test : (b : Bool) → place_among k ns ≤ length ns → (if b then suc (place_among k ns) else 0) ≤ suc (length ns)
    by_test true e = omega arith
    by_test false e = omega arith

-- what lies above a number lies above each lesser one
pub above_more : (j k : ℕ) (ns : List ℕ) → j ≤ k → AreAbove k ns → AreAbove j ns
above_more j k [] le a = a
above_more j k (n ∷ ns) le a = (omega (arith, a.0), above_more j k ns le a.1)

-- two lists above a number, joined
pub above_append : (k : ℕ) (xs ys : List ℕ) → AreAbove k xs → AreAbove k ys → AreAbove k (xs ++ ys)
above_append k [] ys a b = b
above_append k (x ∷ xs) ys a b = (a.0, above_append k xs ys a.1 b)

-- the front of a list above a number
pub above_front : (k : ℕ) (xs ys : List ℕ) → AreAbove k (xs ++ ys) → AreAbove k xs
above_front k [] ys a = tt
above_front k (x ∷ xs) ys a = (a.0, above_front k xs ys a.1)

-- the back of a list above a number
pub above_back : (k : ℕ) (xs ys : List ℕ) → AreAbove k (xs ++ ys) → AreAbove k ys
above_back k [] ys a = a
above_back k (x ∷ xs) ys a = above_back k xs ys a.1

-- one number of a list above a number
pub above_at : (k : ℕ) (ns : List ℕ) (i d : ℕ) → AreAbove k ns → i < length ns → k < get_or ns i d
above_at k [] i d a l = absurd (omega arith)
above_at k (n ∷ ns) zero d a l = a.0
above_at k (n ∷ ns) (suc i) d a l = above_at k ns i d a.1 (omega arith)

-- what is above k has its place at the front
pub place_above : (k : ℕ) (ns : List ℕ) → AreAbove k ns → place_among k ns ≡ 0
place_above k [] a = refl
place_above k (n ∷ ns) a = if_false (nat_lt n k) (suc (place_among k ns)) 0 (le-ltb n k (omega (arith, a.0)))

-- what a binary search finds is the place
pub place_found : {X : Type 0} (key : X → ℕ) (k : ℕ) (xs : List X) (i : ℕ) → i ≤ length xs
    → IsPartitionPoint (λ y. nat_lt (key y) k ≡ true) (λ y. nat_lt (key y) k ≡ false) xs i
    → i ≡ place_among k (map key xs)
place_found key k [] i l p = omega arith
place_found key k (x ∷ xs) zero l p = sym
    (if_false (nat_lt (key x) k) (suc (place_among k (map key xs))) 0 (p.1 0 x (omega arith) (omega arith)))
place_found key k (x ∷ xs) (suc i) l p =
    ap suc (place_found key k xs i (omega arith)
    (λ j d a b. p.0 (suc j) d (omega arith) (omega arith), λ j d a b. p.1 (suc j) d (omega arith) (omega arith)))
    ∙ sym (if_true (nat_lt (key x) k) (suc (place_among k (map key xs))) 0 (p.0 0 x (omega arith) (omega arith)))

-- one row of a table whose numbers lie above a number
pub above_key : {X : Type 0} (key : X → ℕ) (k : ℕ) (xs : List X) (i : ℕ) (d : X) → AreAbove k (map key xs)
    → i < length xs → k < key (get_or xs i d)
above_key key k [] i d a l = absurd (omega arith)
above_key key k (x ∷ xs) zero d a l = a.0
above_key key k (x ∷ xs) (suc i) d a l = above_key key k xs i d a.1 (omega arith)

-- in a rising table the number at an earlier place is no greater
pub rises_le : {X : Type 0} (key : X → ℕ) (xs : List X) (i j : ℕ) (d : X) → Rises (map key xs) → i ≤ j → j < length xs
    → key (get_or xs i d) ≤ key (get_or xs j d)
rises_le key [] i j d r le l = absurd (omega arith)
rises_le key (x ∷ xs) zero zero d r le l = omega arith
rises_le key (x ∷ xs) zero (suc j) d r le l = let a = above_key key (key x) xs j d r.0 (omega arith) in omega arith
rises_le key (x ∷ xs) (suc i) zero d r le l = absurd (omega arith)
rises_le key (x ∷ xs) (suc i) (suc j) d r le l = rises_le key xs i j d r.1 (omega arith) (omega arith)

-- a rising table is cut in two by a number: what a binary search asks for
pub rises_parts : {X : Type 0} (key : X → ℕ) (k : ℕ) (xs : List X) → Rises (map key xs)
    → IsPartitionedBy (λ y. nat_lt (key y) k) xs
rises_parts key k xs r i j d le l e =
    let a = rises_le key xs i j d r le l in
    let b = ltb-true (key (get_or xs j d)) k e in
    lt-ltb (key (get_or xs i d)) k (omega arith)

-- the place of a number, when it is put there
pub insert_front : {X : Type 0} (xs : List X) (x : X) → insert xs 0 x ≡ x ∷ xs
insert_front [] x = refl
insert_front (y ∷ ys) x = refl

-- the numbers of a table into which a row goes
pub map-insert : {X : Type 0} (key : X → ℕ) (xs : List X) (i : ℕ) (x : X)
    → map key (insert xs i x) ≡ insert (map key xs) i (key x)
map-insert key xs zero x = ap (map key) (insert_front xs x) ∙ sym (insert_front (map key xs) (key x))
map-insert key [] (suc i) x = refl
map-insert key (y ∷ ys) (suc i) x = ap (λ z. key y ∷ z) (map-insert key ys i x)

above_insert : (j k : ℕ) (ns : List ℕ) (i : ℕ) → j < k → AreAbove j ns → AreAbove j (insert ns i k)
above_insert j k ns zero l a = subst (AreAbove j) (sym (insert_front ns k)) (l, a)
above_insert j k [] (suc i) l a = (l, tt)
above_insert j k (n ∷ ns) (suc i) l a = (a.0, above_insert j k ns i l a.1)

-- a number that is not there, put to its place
pub rises_insert : (k : ℕ) (ns : List ℕ) → times_of k ns ≡ 0 → Rises ns → Rises (insert ns (place_among k ns) k)
rises_insert k [] none r = (tt, tt)
rises_insert k (n ∷ ns) none r = by_test (k == n) (nat_lt n k) (λ e. rises_insert k ns e r.1) refl refl none
  where
    by_test : (b d : Bool) → (times_of k ns ≡ 0 → Rises (insert ns (place_among k ns) k)) → (k == n) ≡ b
        → nat_lt n k ≡ d → (if b then suc (times_of k ns) else times_of k ns) ≡ 0
        → Rises (insert (n ∷ ns) (if d then suc (place_among k ns) else 0) k)
    by_test true d more e l none = absurd (omega arith)
    by_test false true more e l none = (above_insert n k ns (place_among k ns) (ltb-true n k l) r.0, more none)
    by_test false false more e l none =
        let less : k < n = strictly (ltb-false n k l) in
        ((less, above_more k n ns (omega (arith, less)) r.0), r)
      where
        strictly : k ≤ n → k < n
        strictly le = grind (arith, e, le)
