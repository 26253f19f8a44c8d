-- Laws of the live epochs by number.
use Rattle.std.proofs.Common.{◌≡◌, ℕ, suc, ◌<◌, List, [], ◌∷◌, map, length, set, Bool, true, false, if◌then◌else◌, nat_lt, ◌==◌, refl, sym, arith, ap, ◌∙◌, Some, None, is_some, get_or}
use Rattle.std.specs.declared.option.Option.{Option}
use Rattle.std.specs.List.{slice_get}
use Rattle.std.proofs.lemmas.Bool.{lt-ltb, le-ltb}
use Rattle.sq_channel.proofs.RisingLaws.{if_false, if_true}
use Rattle.sq_machine.specs.Rising.{AreAbove, Rises, place_among}
use Rattle.sq_class.specs.Parts.{PartState}
use Rattle.sq_epochs.specs.EpochStates.{EpochState, EpochsState, IsChanged, IsEpochChanged, change_epoch, epoch_at, epoch_in, epoch_number, part_at, part_of, with_part}

-- the epoch with number e is x, and it is at its place
pub record IsPlaced (e : ℕ) (xs : List EpochState) (x : EpochState) : Type 0 where
  pub number : x.epoch ≡ e
  pub within : place_among e (map epoch_number xs) < length xs
  pub at : (d : EpochState) → get_or xs (place_among e (map epoch_number xs)) d ≡ x
  pub set_is : (f : EpochState → EpochState) → set xs (place_among e (map epoch_number xs)) (f x) ≡ change_epoch e f xs

equal : (a b : ℕ) → (a == b) ≡ true → a ≡ b
equal a b e = grind (arith, e)

above_found : (j e : ℕ) (xs : List EpochState) (x : EpochState) → AreAbove j (map epoch_number xs)
    → epoch_in e xs ≡ Some x → j < e
above_found j e [] x a f = absurd cc
above_found j e (y ∷ ys) x a f = by_test (e == y.epoch) refl f (above_found j e ys x a.1)
  where
    by_test : (b : Bool) → (e == y.epoch) ≡ b → (if b then Some y else epoch_in e ys) ≡ Some x
        → (epoch_in e ys ≡ Some x → j < e) → j < e
    by_test true t f g = let q = equal e y.epoch t in let l = a.0 in omega arith
    by_test false t f g = g f

pub placed : (e : ℕ) (xs : List EpochState) (x : EpochState) → Rises (map epoch_number xs) → epoch_in e xs ≡ Some x
    → IsPlaced e xs x
placed e [] x r f = absurd cc
placed e (y ∷ ys) x r f = by_test (e == y.epoch) refl f (placed e ys x r.1)
  where
    by_test : (b : Bool) → (e == y.epoch) ≡ b → (if b then Some y else epoch_in e ys) ≡ Some x
        → (epoch_in e ys ≡ Some x → IsPlaced e ys x) → IsPlaced e (y ∷ ys) x
    by_test true t f more =
        let same : y ≡ x = cc in
        let num : e ≡ y.epoch = equal e y.epoch t in
        let place : place_among e (map epoch_number (y ∷ ys)) ≡ 0 =
        if_false (nat_lt y.epoch e) (suc (place_among e (map epoch_number ys))) 0 (le-ltb y.epoch e (omega arith)) in
        record {
          number = sym (ap (λ z. z.epoch) same) ∙ sym num;
          within = omega (arith, place);
          at = λ d. ap (λ i. get_or (y ∷ ys) i d) place ∙ same;
          set_is = λ g. ap (λ i. set (y ∷ ys) i (g x)) place ∙ ap (λ z. g z ∷ ys) (sym same)
              ∙ sym (if_true (e == y.epoch) (g y ∷ ys) (y ∷ change_epoch e g ys) t);
        }
    by_test false t f more =
        let rest = more f in
        let low = above_found y.epoch e ys x r.0 f in
        let place : place_among e (map epoch_number (y ∷ ys)) ≡ suc (place_among e (map epoch_number ys)) =
        if_true (nat_lt y.epoch e) (suc (place_among e (map epoch_number ys))) 0 (lt-ltb y.epoch e low) in
        record {
          number = rest.number;
          within = let w = rest.within in omega (arith, place);
          at = λ d. ap (λ i. get_or (y ∷ ys) i d) place ∙ rest.at d;
          set_is = λ g. ap (λ i. set (y ∷ ys) i (g x)) place ∙ ap (λ z. y ∷ z) (rest.set_is g)
              ∙ sym (if_false (e == y.epoch) (g y ∷ ys) (y ∷ change_epoch e g ys) t);
        }

-- where a part is, there are its epoch and its class
pub record IsThere (v : EpochsState) (e c : ℕ) : Type 0 where
  pub epoch : EpochState
  pub part : PartState
  pub epoch_is : epoch_at v e ≡ Some epoch
  pub part_is : slice_get epoch.parts c ≡ Some part
  pub found : part_at v e c ≡ Some part

some_of : (o : Option PartState) → is_some o ≡ true → (p : PartState) × (o ≡ Some p)
some_of None e = absurd cc
some_of (Some p) e = (p, refl)

pub is_there : (v : EpochsState) (e c : ℕ) → is_some (part_at v e c) ≡ true → IsThere v e c
is_there v e c is = by_case (epoch_at v e) refl is
  where
    by_case : (o : Option EpochState) → epoch_at v e ≡ o → is_some (part_of c o) ≡ true → IsThere v e c
    by_case None q is = absurd cc
    by_case (Some x) q is = let p = some_of (slice_get x.parts c) is in
        record { epoch = x; part = p.0; epoch_is = q; part_is = p.1; found = ap (part_of c) q ∙ p.1 }

-- a change of the epoch at its place is one of the whole
pub changed : (v new : EpochsState) (e c : ℕ) (x y : EpochState) (Change : PartState → PartState → Type 0)
    → epoch_at v e ≡ Some x → IsPlaced e v.epochs x → IsEpochChanged c Change x y
    → new ≡ record v { epochs = set v.epochs (place_among e (map epoch_number v.epochs)) y }
    → IsChanged e c Change v new
changed v new e c x y Change is placed change n = record {
  before = change.before;
  after = change.after;
  was = ap (part_of c) is ∙ change.was;
  change = change.change;
  new_is = n ∙ ap (λ z. record v { epochs = set v.epochs (place_among e (map epoch_number v.epochs)) z }) change.new_is
      ∙ ap (λ z. record v { epochs = z }) (placed.set_is (with_part c change.after));
}
