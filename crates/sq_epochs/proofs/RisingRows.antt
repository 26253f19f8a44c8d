-- Laws of rows by numbers that rise: some of them, and one more at the end.
use Rattle.std.proofs.Common.{◌≡◌, ℕ, ◌<◌, List, [], ◌∷◌, ◌++◌, map, filter, Bool, true, false, cond, refl, ap}
use Rattle.sq_machine.specs.Rising.{AreAbove, AreBelow, Rises}

pub above_filter : {X : Type 0} (key : X → ℕ) (p : X → Bool) (k : ℕ) (xs : List X) → AreAbove k (map key xs)
    → AreAbove k (map key (filter p xs))
above_filter key p k [] a = tt
above_filter key p k (x ∷ xs) a = by_test (p x) (above_filter key p k xs a.1)
  where
    by_test : (b : Bool) → AreAbove k (map key (filter p xs))
        → AreAbove k (map key (cond b (x ∷ filter p xs) (filter p xs)))
    by_test true more = (a.0, more)
    by_test false more = more

pub below_filter : {X : Type 0} (key : X → ℕ) (p : X → Bool) (k : ℕ) (xs : List X) → AreBelow k (map key xs)
    → AreBelow k (map key (filter p xs))
below_filter key p k [] a = tt
below_filter key p k (x ∷ xs) a = by_test (p x) (below_filter key p k xs a.1)
  where
    by_test : (b : Bool) → AreBelow k (map key (filter p xs))
        → AreBelow k (map key (cond b (x ∷ filter p xs) (filter p xs)))
    by_test true more = (a.0, more)
    by_test false more = more

pub rises_filter : {X : Type 0} (key : X → ℕ) (p : X → Bool) (xs : List X) → Rises (map key xs)
    → Rises (map key (filter p xs))
rises_filter key p [] r = tt
rises_filter key p (x ∷ xs) r = by_test (p x) (rises_filter key p xs r.1)
  where
    by_test : (b : Bool) → Rises (map key (filter p xs)) → Rises (map key (cond b (x ∷ filter p xs) (filter p xs)))
    by_test true more = (above_filter key p (key x) xs r.0, more)
    by_test false more = more

pub above_push : (k : ℕ) (ns : List ℕ) (n : ℕ) → k < n → AreAbove k ns → AreAbove k (ns ++ n ∷ [])
above_push k [] n l a = (l, tt)
above_push k (m ∷ ns) n l a = (a.0, above_push k ns n l a.1)

pub rises_push : (ns : List ℕ) (n : ℕ) → AreBelow n ns → Rises ns → Rises (ns ++ n ∷ [])
rises_push [] n b r = (tt, tt)
rises_push (m ∷ ns) n b r = (above_push m ns n b.0 r.0, rises_push ns n b.1 r.1)

pub below_push : (k : ℕ) (ns : List ℕ) (n : ℕ) → n < k → AreBelow k ns → AreBelow k (ns ++ n ∷ [])
below_push k [] n l b = (l, tt)
below_push k (m ∷ ns) n l b = (b.0, below_push k ns n l b.1)

pub keys_push : {X : Type 0} (key : X → ℕ) (xs : List X) (x : X) → map key (xs ++ x ∷ []) ≡ map key xs ++ key x ∷ []
keys_push key [] x = refl
keys_push key (y ∷ xs) x = ap (λ ns. key y ∷ ns) (keys_push key xs x)
