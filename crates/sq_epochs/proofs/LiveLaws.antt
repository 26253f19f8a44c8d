-- Laws of which epochs live.
use Rattle.std.proofs.Common.{◌≡◌, ℕ, suc, ◌<◌, ◌-◌, List, [], ◌∷◌, map, length, set, Bool, true, false, not, ◌&&◌, ◌||◌, if◌then◌else◌, nat_lt, ◌==◌, refl, sym, arith, ap, ◌∙◌, Some, None, is_some, get_or, subst}
use Rattle.std.specs.declared.option.Option.{Option}
use Rattle.std.specs.List.{list_all}
use Rattle.std.specs.Option.{option_map_or}
use Rattle.std.proofs.Math.Seq.{map-set_same}
use Rattle.std.proofs.lemmas.List.Folds.{list_all-map, list_all_at}
use Rattle.sq_machine.specs.Rising.{AreAbove, AreBelow, Rises, place_among}
use Rattle.sq_epochs.specs.EpochStates.{EpochState, EpochsState, change_epoch, epoch_at, epoch_in, epoch_number}
use Rattle.sq_epochs.specs.LiveEpochs.{AreEpochs, check_less, check_more, checks_at, is_used}
use Rattle.sq_epochs.proofs.EpochLaws.{IsPlaced, placed}

-- one of these epochs has the number
abbrev pub has_epoch : ℕ → List ℕ → Bool
has_epoch e [] = false
has_epoch e (n ∷ ns) = if e == n then true else has_epoch e ns

-- whether an epoch is there, by the numbers alone
pub there_by_number : (e : ℕ) (xs : List EpochState) → is_some (epoch_in e xs) ≡ has_epoch e (map epoch_number xs)
there_by_number e [] = refl
there_by_number e (x ∷ xs) = by_test (e == x.epoch) (there_by_number e xs)
  where
    by_test : (b : Bool) → is_some (epoch_in e xs) ≡ has_epoch e (map epoch_number xs)
        → is_some (if b then Some x else epoch_in e xs) ≡ (if b then true else has_epoch e (map epoch_number xs))
    by_test true more = refl
    by_test false more = more

abbrev itself : Bool → Bool
itself b = b

-- whether each epoch is used, by that of each
used_by_map : (current : ℕ) (xs : List EpochState)
    → list_all (is_used current) xs ≡ list_all itself (map (is_used current) xs)
used_by_map current xs = sym (list_all-map itself (is_used current) xs)

-- epochs with the same numbers, of which the same are used, are epochs
pub same_epochs : (v w : EpochsState) → AreEpochs v → w.current ≡ v.current
    → map epoch_number w.epochs ≡ map epoch_number v.epochs
    → map (is_used v.current) w.epochs ≡ map (is_used v.current) v.epochs → AreEpochs w
same_epochs v w is current numbers used = record {
  rise = subst Rises (sym numbers) is.rise;
  numbered = subst (AreAbove 0) (sym numbers) is.numbered;
  born = subst (λ c. AreBelow (suc c) (map epoch_number w.epochs)) (sym current)
      (subst (AreBelow (suc v.current)) (sym numbers) is.born);
  here = ap (λ c. is_some (epoch_in c w.epochs)) current ∙ there_by_number v.current w.epochs
      ∙ ap (has_epoch v.current) numbers ∙ sym (there_by_number v.current v.epochs) ∙ is.here;
  used = ap (λ c. list_all (is_used c) w.epochs) current ∙ used_by_map v.current w.epochs ∙ ap (list_all itself) used
      ∙ sym (used_by_map v.current v.epochs) ∙ is.used;
}

-- epochs are epochs still, where one was changed and has its number and its open checks
pub still_epochs : (v : EpochsState) (i : ℕ) (x y : EpochState) → AreEpochs v → x ≡ get_or v.epochs i x
    → y.epoch ≡ x.epoch → y.checks ≡ x.checks
    → AreEpochs (record v { epochs = set v.epochs i y })
still_epochs v i x y is there number checks =
    same_epochs v (record v { epochs = set v.epochs i y }) is refl
    (map-set_same epoch_number v.epochs i y x (number ∙ ap epoch_number there))
    (map-set_same (is_used v.current) v.epochs i y x
    (ap (λ n. v.current == n || nat_lt 0 y.checks) number ∙ ap (λ n. v.current == x.epoch || nat_lt 0 n) checks
    ∙ ap (is_used v.current) there))

pub equal : (a b : ℕ) → (a == b) ≡ true → a ≡ b
equal a b e = grind (arith, e)

-- an epoch that is found where each number is above j has a number above j
pub above_found : (j e : ℕ) (xs : List EpochState) → AreAbove j (map epoch_number xs) → is_some (epoch_in e xs) ≡ true
    → j < e
above_found j e [] a f = absurd cc
above_found j e (y ∷ ys) a f = by_test (e == y.epoch) refl f (above_found j e ys a.1)
  where
    by_test : (b : Bool) → (e == y.epoch) ≡ b → is_some (if b then Some y else epoch_in e ys) ≡ true
        → (is_some (epoch_in e ys) ≡ true → j < e) → j < e
    by_test true t f g = let q = equal e y.epoch t in let l = a.0 in omega arith
    by_test false t f g = g f

-- an epoch stands at this place of the list
pub record IsEpochFound (v : EpochsState) (e i : ℕ) : Type 0 where
  pub epoch : EpochState
  pub within : i < length v.epochs
  pub at : (d : EpochState) → get_or v.epochs i d ≡ epoch
  pub epoch_is : epoch_at v e ≡ Some epoch
  pub placed : IsPlaced e v.epochs epoch
  pub place : i ≡ place_among e (map epoch_number v.epochs)

pub find_epoch : (v w : EpochsState) (e i : ℕ) → v ≡ w → Rises (map epoch_number v.epochs)
    → is_some (epoch_at w e) ≡ true → i ≡ place_among e (map epoch_number v.epochs) → IsEpochFound v e i
find_epoch v w e i same r is p = by_case (epoch_at v e) refl (ap (λ z. is_some (epoch_at z e)) same ∙ is)
  where
    by_case : (o : Option EpochState) → epoch_at v e ≡ o → is_some o ≡ true → IsEpochFound v e i
    by_case None q f = absurd cc
    by_case (Some x) q f =
        let at = placed e v.epochs x r q in
        record {
          epoch = x;
          within = let w = at.within in omega (arith, p);
          at = λ d. ap (λ j. get_or v.epochs j d) p ∙ at.at d;
          epoch_is = q;
          placed = at;
          place = p;
        }

-- an epoch of which a check is open lives
pub open_there : (v : EpochsState) (e : ℕ) → 0 < checks_at v e → is_some (epoch_at v e) ≡ true
open_there v e l = by_case (epoch_at v e) l
  where
    by_case : (o : Option EpochState) → 0 < option_map_or (λ x. x.checks) o 0 → is_some o ≡ true
    by_case None l = absurd (omega arith)
    by_case (Some x) l = refl

-- how many checks of the epoch at the place are open
pub checks_here : (v w : EpochsState) (e i : ℕ) (f : IsEpochFound v e i) (x : EpochState) → v ≡ w
    → x ≡ get_or v.epochs i x → checks_at w e ≡ x.checks
checks_here v w e i f x same is = sym (ap (λ z. checks_at z e) same)
    ∙ ap (λ o. option_map_or (λ y. y.checks) o 0) f.epoch_is ∙ sym (ap (λ y. y.checks) (is ∙ f.at x))

-- the epoch at the place was changed
pub changed_epoch : (v w : EpochsState) (e i : ℕ) (f : IsEpochFound v e i) (x y : EpochState)
    (g : EpochState → EpochState) → v ≡ w → x ≡ get_or v.epochs i x → y ≡ g x
    → record v { epochs = set v.epochs i y } ≡ record w { epochs = change_epoch e g w.epochs }
changed_epoch v w e i f x y g same is made =
    ap (λ z. record v { epochs = set v.epochs i z }) (made ∙ ap g (is ∙ f.at x))
    ∙ ap (λ j. record v { epochs = set v.epochs j (g f.epoch) }) f.place
    ∙ ap (λ z. record v { epochs = z }) (f.placed.set_is g)
    ∙ ap (λ (z : EpochsState). record z { epochs = change_epoch e g z.epochs }) same

-- epochs are epochs still, where one was changed, has its number and is used
pub still_used : (v : EpochsState) (i : ℕ) (x y : EpochState) → AreEpochs v → i < length v.epochs
    → x ≡ get_or v.epochs i x → y.epoch ≡ x.epoch → is_used v.current y ≡ true
    → AreEpochs (record v { epochs = set v.epochs i y })
still_used v i x y is within there number used =
    same_epochs v (record v { epochs = set v.epochs i y }) is refl
    (map-set_same epoch_number v.epochs i y x (number ∙ ap epoch_number there))
    (map-set_same (is_used v.current) v.epochs i y x
    (used ∙ sym (used_at (is_used v.current (get_or v.epochs i x)) refl)))
  where
    used_at : (b : Bool) → is_used v.current (get_or v.epochs i x) ≡ b → b ≡ true
    used_at true e = refl
    used_at false e = sym (list_all_at (is_used v.current) v.epochs i x within e) ∙ is.used

-- an epoch that is there stands within the list
pub place_within : (e i : ℕ) (xs : List EpochState) → Rises (map epoch_number xs) → is_some (epoch_in e xs) ≡ true
    → i ≡ place_among e (map epoch_number xs) → i < length xs
place_within e i xs r is p = by_case (epoch_in e xs) refl is
  where
    by_case : (o : Option EpochState) → epoch_in e xs ≡ o → is_some o ≡ true → i < length xs
    by_case None q f = absurd cc
    by_case (Some x) q f = let w = (placed e xs x r q).within in omega (arith, p)

-- an epoch of which one check more is open is used
pub more_used : (c : ℕ) (x : EpochState) → is_used c (check_more x) ≡ true
more_used c x = right (c == x.epoch) (nat_lt 0 (suc x.checks)) positive
  where
    positive : nat_lt 0 (suc x.checks) ≡ true
    positive = grind arith

    right : (a b : Bool) → b ≡ true → (a || b) ≡ true
    right true b e = refl
    right false b e = e

-- an epoch of which one check fewer is open is used, where it is current or had more than one
pub less_used : (c e : ℕ) (x : EpochState) → x.epoch ≡ e → 0 < x.checks → (x.checks == 1 && not (e == c)) ≡ false
    → is_used c (check_less x) ≡ true
less_used c e x n l f = by_test (x.checks == 1) (e == c) refl refl f
  where
    right : (a b : Bool) → b ≡ true → (a || b) ≡ true
    right true b e = refl
    right false b e = e

    many : (x.checks == 1) ≡ false → nat_lt 0 (x.checks - 1) ≡ true
    many t = grind (arith, t, l)

    same : (e == c) ≡ true → (c == x.epoch) ≡ true
    same t = grind (arith, t, n)

    by_test : (a b : Bool) → (x.checks == 1) ≡ a → (e == c) ≡ b → (a && not b) ≡ false → is_used c (check_less x) ≡ true
    by_test false b t s f = right (c == x.epoch) (nat_lt 0 (x.checks - 1)) (many t)
    by_test true true t s f = ap (λ z. z || nat_lt 0 (x.checks - 1)) (same s)
    by_test true false t s f = absurd cc

-- an epoch lives where it is current or has an open check
pub lives_is : (v : EpochsState) (e : ℕ) → AreEpochs v
    → is_some (epoch_at v e) ≡ (v.current == e || nat_lt 0 (checks_at v e))
lives_is v e is = by_case (epoch_at v e) refl (v.current == e) refl
  where
    found : (xs : List EpochState) (x : EpochState) → list_all (is_used v.current) xs ≡ true → epoch_in e xs ≡ Some x
        → (v.current == e || nat_lt 0 x.checks) ≡ true
    found [] x u f = absurd cc
    found (y ∷ ys) x u f = by_test (e == y.epoch) refl (is_used v.current y) refl u f (found ys x)
      where
        this : e ≡ y.epoch → y ≡ x → is_used v.current y ≡ true → (v.current == e || nat_lt 0 x.checks) ≡ true
        this n s t = ap (λ z. v.current == z || nat_lt 0 x.checks) n
            ∙ ap (λ z. v.current == y.epoch || nat_lt 0 z.checks) (sym s) ∙ t

        by_test : (b : Bool) → (e == y.epoch) ≡ b → (d : Bool) → is_used v.current y ≡ d
            → (d && list_all (is_used v.current) ys) ≡ true → (if b then Some y else epoch_in e ys) ≡ Some x
            → (list_all (is_used v.current) ys ≡ true → epoch_in e ys ≡ Some x
            → (v.current == e || nat_lt 0 x.checks) ≡ true) → (v.current == e || nat_lt 0 x.checks) ≡ true
        by_test b t false s u f more = absurd cc
        by_test true t true s u f more = let same : y ≡ x = cc in this (equal e y.epoch t) same s
        by_test false t true s u f more = more u f

    by_case : (o : Option EpochState) → epoch_at v e ≡ o → (b : Bool) → (v.current == e) ≡ b
        → is_some o ≡ (b || nat_lt 0 (option_map_or (λ x. x.checks) o 0))
    by_case None q false t = refl
    by_case None q true t =
        let n = equal v.current e t in
        let none : is_some (epoch_at v v.current) ≡ false = ap (λ z. is_some (epoch_at v z)) n ∙ ap is_some q in
        absurd cc
    by_case (Some x) q b t = sym (ap (λ z. z || nat_lt 0 x.checks) (sym t) ∙ found v.epochs x is.used q)
