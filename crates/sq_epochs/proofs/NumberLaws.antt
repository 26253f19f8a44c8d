-- Laws of the numbers of live epochs: they are those that live, in order.
use Rattle.std.proofs.Common.{◌≡◌, ℕ, suc, zero, ◌<◌, ◌≤◌, List, [], ◌∷◌, ◌++◌, map, length, filter, Bool, true, false, ◌&&◌, ◌||◌, cond, if◌then◌else◌, nat_lt, ◌==◌, refl, sym, arith, ap, ◌∙◌, Some, is_some}
use Rattle.std.specs.Option.{option_map_or}
use Rattle.std.proofs.lemmas.Bool.{lt-ltb}
use Rattle.sq_machine.specs.Numbered.{picks}
use Rattle.sq_machine.specs.Rising.{AreAbove, AreBelow, Rises}
use Rattle.sq_epochs.specs.EpochStates.{EpochState, EpochsState, epoch_at, epoch_in, epoch_number}
use Rattle.sq_epochs.specs.HomeStates.{is_among}
use Rattle.sq_epochs.specs.LiveEpochs.{AreEpochs, busy_count, checks_at, has_checks}
use Rattle.sq_epochs.proofs.RisingRows.{above_filter, below_filter, below_push, rises_filter, rises_push}

equal : (a b : ℕ) → (a == b) ≡ true → a ≡ b
equal a b e = grind (arith, e)

itself : (a : ℕ) → (a == a) ≡ true
itself a = grind arith

apart : (a b : ℕ) → a < b → (a == b) ≡ false
apart a b l = grind (arith, l)

-- no number at or below k is among those above k
not_among : (j k : ℕ) (ns : List ℕ) → j ≤ k → AreAbove k ns → is_among j ns ≡ false
not_among j k [] l a = refl
not_among j k (n ∷ ns) l a =
    let low = a.0 in
    ap (λ b. b || is_among j ns) (apart j n (omega arith)) ∙ not_among j k ns l a.1

-- a number among those that rise is not below the first
not_below : (k n : ℕ) (ns : List ℕ) → AreAbove n ns → is_among k (n ∷ ns) ≡ true → n ≤ k
not_below k n ns a is = by_less (nat_lt k n) refl
  where
    below : nat_lt k n ≡ true → k < n
    below e = grind (arith, e)

    above : nat_lt k n ≡ false → n ≤ k
    above e = grind (arith, e)

    both_not : (b c : Bool) → b ≡ false → c ≡ false → (b || c) ≡ true → ⊥
    both_not b c p q e = cc

    by_less : (b : Bool) → nat_lt k n ≡ b → n ≤ k
    by_less false e = above e
    by_less true e =
        let l = below e in
        absurd (both_not (k == n) (is_among k ns) (apart k n l) (not_among k n ns (omega arith) a) is)

-- numbers that rise are one list, where the same are among them
rising_same : (ms ns : List ℕ) → Rises ms → Rises ns → ((k : ℕ) → is_among k ms ≡ is_among k ns) → ms ≡ ns
rising_same [] [] r s same = refl
rising_same [] (n ∷ ns) r s same = absurd (none (n == n) (is_among n ns) (itself n) (same n))
  where
    none : (b c : Bool) → b ≡ true → false ≡ (b || c) → ⊥
    none b c p e = cc
rising_same (m ∷ ms) [] r s same = absurd (none (m == m) (is_among m ms) (itself m) (same m))
  where
    none : (b c : Bool) → b ≡ true → (b || c) ≡ false → ⊥
    none b c p e = cc
rising_same (m ∷ ms) (n ∷ ns) r s same = joined first (rising_same ms ns r.1 s.1 (λ k. rest k (k == m) refl))
  where
    front : (b c : Bool) → b ≡ true → (b || c) ≡ true
    front b c p = cc

    first : m ≡ n
    first =
        let low = not_below m n ns s.0 (sym (same m) ∙ front (m == m) (is_among m ms) (itself m)) in
        let high = not_below n m ms r.0 (same n ∙ front (n == n) (is_among n ns) (itself n)) in
        omega arith

    rest : (k : ℕ) (b : Bool) → (k == m) ≡ b → is_among k ms ≡ is_among k ns
    rest k true e =
        let here = equal k m e in
        not_among k m ms (omega arith) r.0 ∙ sym (let l : k ≤ n = omega (arith, first, here) in not_among k n ns l s.0)
    rest k false e =
        ap (λ z. z || is_among k ms) (sym e) ∙ same k ∙ ap (λ z. z || is_among k ns) (ap (λ z. k == z) (sym first) ∙ e)

    joined : m ≡ n → ms ≡ ns → m ∷ ms ≡ n ∷ ns
    joined p q = cc

below_picks : (k : ℕ) (t : ℕ → Bool) (n : ℕ) → n < k → AreBelow k (picks t n)
below_picks k t zero l = tt
below_picks k t (suc n) l = by_test (t (suc n)) (below_picks k t n (omega arith))
  where
    by_test : (b : Bool) → AreBelow k (picks t n) → AreBelow k (if b then picks t n ++ suc n ∷ [] else picks t n)
    by_test true more = below_push k (picks t n) (suc n) l more
    by_test false more = more

rises_picks : (t : ℕ → Bool) (n : ℕ) → Rises (picks t n)
rises_picks t zero = tt
rises_picks t (suc n) = by_test (t (suc n)) (rises_picks t n)
  where
    by_test : (b : Bool) → Rises (picks t n) → Rises (if b then picks t n ++ suc n ∷ [] else picks t n)
    by_test true more = rises_push (picks t n) (suc n) (below_picks (suc n) t n (omega arith)) more
    by_test false more = more

among_push : (k : ℕ) (ns : List ℕ) (n : ℕ) → is_among k (ns ++ n ∷ []) ≡ (is_among k ns || k == n)
among_push k [] n = by_test (k == n)
  where
    by_test : (b : Bool) → (b || false) ≡ b
    by_test true = refl
    by_test false = refl
among_push k (m ∷ ns) n = ap (λ b. k == m || b) (among_push k ns n) ∙ moved (k == m) (is_among k ns) (k == n)
  where
    moved : (a b c : Bool) → (a || (b || c)) ≡ ((a || b) || c)
    moved true b c = refl
    moved false b c = refl

-- the number is picked
among_picks : (t : ℕ → Bool) (k n : ℕ) → is_among k (picks t n) ≡ (nat_lt 0 k && nat_lt k (suc n) && t k)
among_picks t k zero = none (nat_lt 0 k) (nat_lt k 1) (t k) refl refl
  where
    outside : (a b : Bool) → nat_lt 0 k ≡ a → nat_lt k 1 ≡ b → (a && b) ≡ false
    outside true true e f = absurd (grind (arith, e, f))
    outside true false e f = refl
    outside false b e f = refl

    none : (a b c : Bool) → nat_lt 0 k ≡ a → nat_lt k 1 ≡ b → false ≡ (a && b && c)
    none a b c e f = sym (ap (λ z. z && c) (outside a b e f))
among_picks t k (suc n) = front (t (suc n)) ∙ by_test (k == suc n) refl (among_picks t k n)
  where
    front : (b : Bool) → is_among k (if b then picks t n ++ suc n ∷ [] else picks t n)
        ≡ (is_among k (picks t n) || (k == suc n && b))
    front true = among_push k (picks t n) (suc n) ∙ last (is_among k (picks t n)) (k == suc n)
      where
        last : (a b : Bool) → (a || b) ≡ (a || (b && true))
        last true b = refl
        last false true = refl
        last false false = refl
    front false = last (is_among k (picks t n)) (k == suc n)
      where
        last : (a b : Bool) → a ≡ (a || (b && false))
        last true b = refl
        last false true = refl
        last false false = refl

    top : k ≡ suc n → (nat_lt 0 k ≡ true) × (nat_lt k (suc (suc n)) ≡ true) × (nat_lt k (suc n) ≡ false)
    top e = (grind (arith, e), grind (arith, e), grind (arith, e))

    other : (k == suc n) ≡ false → nat_lt k (suc (suc n)) ≡ nat_lt k (suc n)
    other e = grind (arith, e)

    here : (a b c d : Bool) → a ≡ true → b ≡ true → d ≡ false → ((a && d && c) || (true && c)) ≡ (a && b && c)
    here true true c false p q r = refl
    here true true c true p q r = absurd cc
    here true false c d p q r = absurd cc
    here false b c d p q r = absurd cc

    there : (a b c d e : Bool) → b ≡ d → ((a && d && c) || (false && e)) ≡ (a && b && c)
    there a b c d e q = open_or (a && d && c) ∙ ap (λ z. a && z && c) (sym q)
      where
        open_or : (x : Bool) → (x || false) ≡ x
        open_or true = refl
        open_or false = refl

    by_test : (b : Bool) → (k == suc n) ≡ b → is_among k (picks t n) ≡ (nat_lt 0 k && nat_lt k (suc n) && t k)
        → (is_among k (picks t n) || (b && t (suc n))) ≡ (nat_lt 0 k && nat_lt k (suc (suc n)) && t k)
    by_test true e more =
        let num : k ≡ suc n = equal k (suc n) e in
        let f = top num in
        ap (λ z. z || (true && t (suc n))) more
        ∙ ap (λ z. (nat_lt 0 k && nat_lt k (suc n) && t k) || (true && t z)) (sym num)
        ∙ here (nat_lt 0 k) (nat_lt k (suc (suc n))) (t k) (nat_lt k (suc n)) f.0 f.1 f.2
    by_test false e more =
        ap (λ z. z || (false && t (suc n))) more
        ∙ there (nat_lt 0 k) (nat_lt k (suc (suc n))) (t k) (nat_lt k (suc n)) (t (suc n)) (other e)

among_range : (k m : ℕ) (ns : List ℕ) → AreAbove 0 ns → AreBelow m ns → is_among k ns ≡ true
    → (nat_lt 0 k ≡ true) × (nat_lt k m ≡ true)
among_range k m [] a b is = absurd cc
among_range k m (n ∷ ns) a b is = by_test (k == n) refl is (among_range k m ns a.1 b.1)
  where
    in_range : k ≡ n → (nat_lt 0 k ≡ true) × (nat_lt k m ≡ true)
    in_range e = let low = a.0 in let high = b.0 in (lt-ltb 0 k (omega arith), lt-ltb k m (omega arith))

    by_test : (t : Bool) → (k == n) ≡ t → (t || is_among k ns) ≡ true
        → (is_among k ns ≡ true → (nat_lt 0 k ≡ true) × (nat_lt k m ≡ true)) → (nat_lt 0 k ≡ true) × (nat_lt k m ≡ true)
    by_test true e f more = in_range (equal k n e)
    by_test false e f more = more f

-- numbers from 1 to n that rise are those that a test picks, where it holds of them alone
pub rising_picked : (t : ℕ → Bool) (n : ℕ) (ns : List ℕ) → Rises ns → AreAbove 0 ns → AreBelow (suc n) ns
    → ((k : ℕ) → is_among k ns ≡ t k) → ns ≡ picks t n
rising_picked t n ns r a b same = rising_same ns (picks t n) r (rises_picks t n)
    (λ k. same k ∙ by_test k (t k) refl ∙ sym (among_picks t k n))
  where
    by_test : (k : ℕ) (c : Bool) → t k ≡ c → t k ≡ (nat_lt 0 k && nat_lt k (suc n) && t k)
    by_test k true e =
        let range = among_range k (suc n) ns a b (same k ∙ e) in
        inside (nat_lt 0 k) (nat_lt k (suc n)) (t k) range.0 range.1
      where
        inside : (x y z : Bool) → x ≡ true → y ≡ true → z ≡ (x && y && z)
        inside x y z p q = cc
    by_test k false e = outside (nat_lt 0 k) (nat_lt k (suc n)) (t k) e
      where
        outside : (x y z : Bool) → z ≡ false → z ≡ (x && y && z)
        outside true true z e = refl
        outside true false z e = e
        outside false y z e = e

-- an epoch is among some by its number where it is found
pub found_among : (e : ℕ) (xs : List EpochState) → is_among e (map epoch_number xs) ≡ is_some (epoch_in e xs)
found_among e [] = refl
found_among e (x ∷ xs) = by_test (e == x.epoch) (found_among e xs)
  where
    by_test : (b : Bool) → is_among e (map epoch_number xs) ≡ is_some (epoch_in e xs)
        → (b || is_among e (map epoch_number xs)) ≡ is_some (if b then Some x else epoch_in e xs)
    by_test true more = refl
    by_test false more = more

-- the numbers of the live epochs, in order
pub live_numbers : (v : EpochsState) → AreEpochs v
    → map epoch_number v.epochs ≡ picks (λ e. is_some (epoch_at v e)) v.current
live_numbers v is = rising_picked (λ e. is_some (epoch_at v e)) v.current (map epoch_number v.epochs) is.rise
    is.numbered is.born (λ k. found_among k v.epochs)

among_busy : (e : ℕ) (xs : List EpochState) → Rises (map epoch_number xs)
    → is_among e (map epoch_number (filter has_checks xs)) ≡ nat_lt 0 (option_map_or (λ x. x.checks) (epoch_in e xs) 0)
among_busy e [] r = refl
among_busy e (x ∷ xs) r = by_busy (has_checks x) refl (among_busy e xs r.1)
  where
    by_number : (b c : Bool) → (e == x.epoch) ≡ c → has_checks x ≡ b
        → is_among e (map epoch_number (filter has_checks xs))
        ≡ nat_lt 0 (option_map_or (λ y. y.checks) (epoch_in e xs) 0)
        → is_among e (map epoch_number (cond b (x ∷ filter has_checks xs) (filter has_checks xs)))
        ≡ nat_lt 0 (option_map_or (λ y. y.checks) (if c then Some x else epoch_in e xs) 0)
    by_number true true s t more = ap (λ z. z || is_among e (map epoch_number (filter has_checks xs))) s ∙ sym t
    by_number true false s t more = ap (λ z. z || is_among e (map epoch_number (filter has_checks xs))) s ∙ more
    by_number false true s t more = let num = equal e x.epoch s in
        not_among e x.epoch (map epoch_number (filter has_checks xs)) (omega arith)
        (above_filter epoch_number has_checks x.epoch xs r.0) ∙ sym t
    by_number false false s t more = more

    by_busy : (b : Bool) → has_checks x ≡ b
        → is_among e (map epoch_number (filter has_checks xs))
        ≡ nat_lt 0 (option_map_or (λ y. y.checks) (epoch_in e xs) 0)
        → is_among e (map epoch_number (cond b (x ∷ filter has_checks xs) (filter has_checks xs)))
        ≡ nat_lt 0 (option_map_or (λ y. y.checks) (if e == x.epoch then Some x else epoch_in e xs) 0)
    by_busy b t more = by_number b (e == x.epoch) refl t more

long : {A B : Type 0} (f : A → B) (xs : List A) → length (map f xs) ≡ length xs
long f [] = refl
long f (x ∷ xs) = ap suc (long f xs)

-- how many live epochs have an open check
pub busy_is : (v : EpochsState) → AreEpochs v → length (filter has_checks v.epochs) ≡ busy_count v
busy_is v is =
    sym (long epoch_number (filter has_checks v.epochs))
    ∙ ap length (rising_picked (λ e. nat_lt 0 (checks_at v e)) v.current (map epoch_number (filter has_checks v.epochs))
    (rises_filter epoch_number has_checks v.epochs is.rise)
    (above_filter epoch_number has_checks 0 v.epochs is.numbered)
    (below_filter epoch_number has_checks (suc v.current) v.epochs is.born) (λ e. among_busy e v.epochs is.rise))
