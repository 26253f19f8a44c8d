-- Laws of the end of an epoch.
use Rattle.std.proofs.Common.{◌≡◌, ℕ, suc, ◌<◌, ◌≤◌, List, [], ◌∷◌, map, Bool, true, false, not, ◌&&◌, cond, if◌then◌else◌, nat_lt, ◌==◌, refl, sym, arith, ap, ◌∙◌, Some, None, is_some, subst}
use Rattle.std.specs.declared.option.Option.{Option}
use Rattle.std.specs.List.{list_all, remove}
use Rattle.std.proofs.lemmas.Bool.{lt-ltb, le-ltb}
use Rattle.sq_channel.proofs.RisingLaws.{if_false, if_true}
use Rattle.sq_machine.specs.Rising.{AreAbove, AreBelow, Rises, place_among}
use Rattle.sq_epochs.specs.EpochStates.{EpochState, EpochsState, epoch_in, epoch_number}
use Rattle.sq_epochs.specs.LiveEpochs.{AreEpochs, checks_at, ends_with_check, is_used, without_epoch}
use Rattle.sq_epochs.proofs.LiveLaws.{above_found, equal}
use Rattle.sq_epochs.proofs.RisingRows.{above_filter, below_filter, rises_filter}

apart : (a b : ℕ) → a < b → (a == b) ≡ false
apart a b l = grind (arith, l)

-- no epoch is dropped where each has a greater number
without_above : (e j : ℕ) (xs : List EpochState) → e ≤ j → AreAbove j (map epoch_number xs) → without_epoch e xs ≡ xs
without_above e j [] l a = refl
without_above e j (x ∷ xs) l a =
    let low = a.0 in
    let other : (e == x.epoch) ≡ false = apart e x.epoch (omega arith) in
    ap (λ b. cond (not b) (x ∷ without_epoch e xs) (without_epoch e xs)) other
    ∙ ap (λ z. x ∷ z) (without_above e j xs l a.1)

-- what is left where the epoch at its place is taken out
pub removed : (e : ℕ) (xs : List EpochState) → Rises (map epoch_number xs) → is_some (epoch_in e xs) ≡ true
    → remove xs (place_among e (map epoch_number xs)) ≡ without_epoch e xs
removed e [] r is = absurd cc
removed e (x ∷ xs) r is = by_test (e == x.epoch) refl is (removed e xs r.1)
  where
    by_test : (b : Bool) → (e == x.epoch) ≡ b → is_some (if b then Some x else epoch_in e xs) ≡ true
        → (is_some (epoch_in e xs) ≡ true → remove xs (place_among e (map epoch_number xs)) ≡ without_epoch e xs)
        → remove (x ∷ xs) (place_among e (map epoch_number (x ∷ xs)))
        ≡ cond (not b) (x ∷ without_epoch e xs) (without_epoch e xs)
    by_test true t f more =
        let num : e ≡ x.epoch = equal e x.epoch t in
        let place : place_among e (map epoch_number (x ∷ xs)) ≡ 0 =
        if_false (nat_lt x.epoch e) (suc (place_among e (map epoch_number xs))) 0 (le-ltb x.epoch e (omega arith)) in
        ap (remove (x ∷ xs)) place ∙ sym (without_above e x.epoch xs (omega arith) r.0)
    by_test false t f more =
        let low = above_found x.epoch e xs r.0 f in
        let place : place_among e (map epoch_number (x ∷ xs)) ≡ suc (place_among e (map epoch_number xs)) =
        if_true (nat_lt x.epoch e) (suc (place_among e (map epoch_number xs))) 0 (lt-ltb x.epoch e low) in
        ap (remove (x ∷ xs)) place ∙ ap (λ z. x ∷ z) (more f)

same_number : (a b : ℕ) → a ≡ b → (a == b) ≡ true
same_number a b e = grind (arith, e)

none_either : (b : Bool) → ◌≡◌ {A = Option EpochState} None (if b then None else None)
none_either true = refl
none_either false = refl

-- the epoch with a number, where another was dropped
pub in_without : (e f : ℕ) (xs : List EpochState)
    → epoch_in f (without_epoch e xs) ≡ (if e == f then None else epoch_in f xs)
in_without e f [] = none_either (e == f)
in_without e f (x ∷ xs) = by_dropped (e == x.epoch) refl (in_without e f xs)
  where
    found : (b : Bool) → (f == x.epoch) ≡ b → (e == x.epoch) ≡ false
        → epoch_in f (without_epoch e xs) ≡ (if e == f then None else epoch_in f xs)
        → (if b then Some x else epoch_in f (without_epoch e xs))
        ≡ (if e == f then None else (if b then Some x else epoch_in f xs))
    found true t d more =
        let num : f ≡ x.epoch = equal f x.epoch t in
        let other : (e == f) ≡ false = ap (λ n. e == n) num ∙ d in
        sym (if_false (e == f) None (Some x) other)
    found false t d more = more

    gone : (c : Bool) → (e == f) ≡ c → (e == x.epoch) ≡ true
        → (if c then None else epoch_in f xs) ≡ (if c then None else (if f == x.epoch then Some x else epoch_in f xs))
    gone true s t = refl
    gone false s t =
        let num : e ≡ x.epoch = equal e x.epoch t in
        let other : (f == x.epoch) ≡ false = grind (arith, num, s) in
        sym (if_false (f == x.epoch) (Some x) (epoch_in f xs) other)

    by_dropped : (b : Bool) → (e == x.epoch) ≡ b
        → epoch_in f (without_epoch e xs) ≡ (if e == f then None else epoch_in f xs)
        → epoch_in f (cond (not b) (x ∷ without_epoch e xs) (without_epoch e xs))
        ≡ (if e == f then None else (if f == x.epoch then Some x else epoch_in f xs))
    by_dropped true t more = more ∙ gone (e == f) refl t
    by_dropped false t more = found (f == x.epoch) refl t more

used_rest : (a b : Bool) → (a && b) ≡ true → b ≡ true
used_rest true b e = e
used_rest false b e = absurd cc

used_first : (a b : Bool) → (a && b) ≡ true → a ≡ true
used_first true b e = refl
used_first false b e = e

used_without : (e c : ℕ) (xs : List EpochState) → list_all (is_used c) xs ≡ true
    → list_all (is_used c) (without_epoch e xs) ≡ true
used_without e c [] u = refl
used_without e c (x ∷ xs) u = by_test (not (e == x.epoch))
    (used_without e c xs (used_rest (is_used c x) (list_all (is_used c) xs) u))
  where
    by_test : (b : Bool) → list_all (is_used c) (without_epoch e xs) ≡ true
        → list_all (is_used c) (cond b (x ∷ without_epoch e xs) (without_epoch e xs)) ≡ true
    by_test true more = cc (used_first (is_used c x) (list_all (is_used c) xs) u)
    by_test false more = more

-- epochs are epochs still, where one ended that was not current
pub dropped_epochs : (v w : EpochsState) (e : ℕ) → AreEpochs v → (e == v.current) ≡ false → w.current ≡ v.current
    → w.epochs ≡ without_epoch e v.epochs → AreEpochs w
dropped_epochs v w e is other current epochs = record {
  rise = subst (λ z. Rises (map epoch_number z)) (sym epochs)
      (rises_filter epoch_number (λ x. not (e == x.epoch)) v.epochs is.rise);
  numbered = subst (λ z. AreAbove 0 (map epoch_number z)) (sym epochs)
      (above_filter epoch_number (λ x. not (e == x.epoch)) 0 v.epochs is.numbered);
  born = subst (λ c. AreBelow (suc c) (map epoch_number w.epochs)) (sym current)
      (subst (λ z. AreBelow (suc v.current) (map epoch_number z)) (sym epochs)
      (below_filter epoch_number (λ x. not (e == x.epoch)) (suc v.current) v.epochs is.born));
  here = ap (λ c. is_some (epoch_in c w.epochs)) current ∙ ap (λ z. is_some (epoch_in v.current z)) epochs
      ∙ ap is_some (in_without e v.current v.epochs
      ∙ if_false (e == v.current) None (epoch_in v.current v.epochs) other)
      ∙ is.here;
  used = ap (λ c. list_all (is_used c) w.epochs) current ∙ ap (list_all (is_used v.current)) epochs
      ∙ used_without e v.current v.epochs is.used;
}

pub not_same : (a b : ℕ) → (a ≡ b → ⊥) → (a == b) ≡ false
not_same a b n = grind (arith, n)

-- a current epoch does not end with a check
pub kept_current : (e : ℕ) (v : EpochsState) → e ≡ v.current → ends_with_check e v ≡ false
kept_current e v same = by_test (checks_at v e == 1) (e == v.current) (same_number e v.current same)
  where
    by_test : (a b : Bool) → b ≡ true → (a && not b) ≡ false
    by_test a false p = absurd cc
    by_test true true p = refl
    by_test false true p = refl

-- nor one with other open checks
pub has_others : (e : ℕ) (v : EpochsState) (n : ℕ) → n ≡ checks_at v e → (n ≡ 1 → ⊥) → ends_with_check e v ≡ false
has_others e v n is more = ap (λ b. b && not (e == v.current)) (ap (λ m. m == 1) (sym is) ∙ not_same n 1 more)

-- the same of the fields
pub last_here : (e : ℕ) (v w : EpochsState) (n : ℕ) → v ≡ w → checks_at w e ≡ n → ends_with_check e w ≡ false
    → (n == 1 && not (e == v.current)) ≡ false
last_here e v w n same checks f = ap (λ z. z == 1 && not (e == v.current)) (sym checks)
    ∙ ap (λ z. checks_at w e == 1 && not (e == z.current)) same ∙ f
