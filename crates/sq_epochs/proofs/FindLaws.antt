-- What stands at the place of a number is what is found by it.
use Rattle.std.proofs.Common.{◌≡◌, ℕ, suc, ◌≤◌, ◌<◌, List, [], ◌∷◌, map, Bool, true, false, if◌then◌else◌, nat_lt, ◌==◌, refl, sym, arith, ap, ◌∙◌, Some, None}
use Rattle.std.specs.declared.option.Option.{Option}
use Rattle.std.specs.List.{slice_get}
use Rattle.std.specs.Option.{option_map}
use Rattle.std.proofs.lemmas.Bool.{ltb-true, ltb-false}
use Rattle.sq_channel.proofs.RisingLaws.{if_false, if_true}
use Rattle.sq_machine.specs.DueActs.{ClassId}
use Rattle.sq_machine.specs.Rising.{AreAbove, Rises, place_among}
use Rattle.sq_epochs.specs.EpochStates.{EpochState, epoch_in, epoch_number}
use Rattle.sq_epochs.specs.HomeStates.{Home, home_in, home_number}

-- the first row with this number
abbrev pub find_by : {X : Type 0} → (X → ℕ) → ℕ → List X → Option X
find_by key k [] = None
find_by key k (x ∷ xs) = if k == key x then Some x else find_by key k xs

-- the row, where it has this number
abbrev pub if_number : {X : Type 0} → (X → ℕ) → ℕ → Option X → Option X
if_number key k None = None
if_number key k (Some x) = if k == key x then Some x else None

none_above : {X : Type 0} (key : X → ℕ) (j k : ℕ) (xs : List X) → k ≤ j → AreAbove j (map key xs)
    → find_by key k xs ≡ None
none_above key j k [] le a = refl
none_above key j k (x ∷ xs) le a =
    let l = a.0 in
    let other : (k == key x) ≡ false = apart k (key x) (omega arith) in
    if_false (k == key x) (Some x) (find_by key k xs) other ∙ none_above key j k xs le a.1
  where
    apart : (a b : ℕ) → a < b → (a == b) ≡ false
    apart a b l = grind (arith, l)

pub found_at : {X : Type 0} (key : X → ℕ) (k : ℕ) (xs : List X) → Rises (map key xs)
    → find_by key k xs ≡ if_number key k (slice_get xs (place_among k (map key xs)))
found_at key k [] r = refl
found_at {X = X} key k (x ∷ xs) r = by_less (nat_lt (key x) k) refl (found_at key k xs r.1)
  where
    apart : (a b : ℕ) → b < a → (a == b) ≡ false
    apart a b l = grind (arith, l)

    first : (b : Bool) → (k == key x) ≡ b → k ≤ key x
        → (if b then Some x else find_by key k xs) ≡ (if b then Some x else None)
    first true e le = refl
    first false e le = none_above key (key x) k xs le r.0

    by_less : (b : Bool) → nat_lt (key x) k ≡ b
        → find_by key k xs ≡ if_number key k (slice_get xs (place_among k (map key xs)))
        → find_by key k (x ∷ xs) ≡ if_number key k (slice_get (x ∷ xs) (place_among k (map key (x ∷ xs))))
    by_less true t more =
        let l = ltb-true (key x) k t in
        if_false (k == key x) (Some x) (find_by key k xs) (apart k (key x) l) ∙ more
        ∙ sym (ap (λ i. if_number key k (slice_get (x ∷ xs) i))
        (if_true (nat_lt (key x) k) (suc (place_among k (map key xs))) 0 t))
    by_less false t more =
        first (k == key x) refl (ltb-false (key x) k t)
        ∙ sym (ap (λ i. if_number key k (slice_get (x ∷ xs) i))
        (if_false (nat_lt (key x) k) (suc (place_among k (map key xs))) 0 t))

epoch_by : (e : ℕ) (xs : List EpochState) → epoch_in e xs ≡ find_by epoch_number e xs
epoch_by e [] = refl
epoch_by e (x ∷ xs) = ap (λ z. if e == x.epoch then Some x else z) (epoch_by e xs)

abbrev place_of : Home → ClassId
place_of h = h.place

home_by : (k : ℕ) (hs : List Home) → home_in k hs ≡ option_map place_of (find_by home_number k hs)
home_by k [] = refl
home_by k (h ∷ hs) = by_test (k == h.proc) (home_by k hs)
  where
    by_test : (b : Bool) → home_in k hs ≡ option_map place_of (find_by home_number k hs)
        → (if b then Some h.place else home_in k hs)
        ≡ option_map place_of (if b then Some h else find_by home_number k hs)
    by_test true more = refl
    by_test false more = more

same_number : (a b : ℕ) → b ≡ a → (a == b) ≡ true
same_number a b e = grind (arith, e)

other_number : (a b : ℕ) → (b ≡ a → ⊥) → (a == b) ≡ false
other_number a b e = grind (arith, e)

-- an epoch that was read at its place, with the number and with another, and none
pub epoch_read : (e i : ℕ) (xs : List EpochState) (x : EpochState) → Rises (map epoch_number xs)
    → i ≡ place_among e (map epoch_number xs) → slice_get xs i ≡ Some x → x.epoch ≡ e → Some x ≡ epoch_in e xs
epoch_read e i xs x r p there n =
    sym (epoch_by e xs ∙ found_at epoch_number e xs r ∙ ap (λ j. if_number epoch_number e (slice_get xs j)) (sym p)
    ∙ ap (if_number epoch_number e) there
    ∙ if_true (e == x.epoch) (Some x) None (same_number e x.epoch n))

pub epoch_other : (e i : ℕ) (xs : List EpochState) (x : EpochState) → Rises (map epoch_number xs)
    → i ≡ place_among e (map epoch_number xs) → slice_get xs i ≡ Some x → (x.epoch ≡ e → ⊥) → None ≡ epoch_in e xs
epoch_other e i xs x r p there n =
    sym (epoch_by e xs ∙ found_at epoch_number e xs r ∙ ap (λ j. if_number epoch_number e (slice_get xs j)) (sym p)
    ∙ ap (if_number epoch_number e) there
    ∙ if_false (e == x.epoch) (Some x) None (other_number e x.epoch n))

pub epoch_none : (e i : ℕ) (xs : List EpochState) → Rises (map epoch_number xs)
    → i ≡ place_among e (map epoch_number xs) → slice_get xs i ≡ None → None ≡ epoch_in e xs
epoch_none e i xs r p there =
    sym (epoch_by e xs ∙ found_at epoch_number e xs r ∙ ap (λ j. if_number epoch_number e (slice_get xs j)) (sym p)
    ∙ ap (if_number epoch_number e) there)

-- the same of a home
pub home_read : (k i : ℕ) (hs : List Home) (h : Home) → Rises (map home_number hs)
    → i ≡ place_among k (map home_number hs) → slice_get hs i ≡ Some h → h.proc ≡ k → Some h.place ≡ home_in k hs
home_read k i hs h r p there n =
    sym (home_by k hs ∙ ap (option_map place_of)
    (found_at home_number k hs r ∙ ap (λ j. if_number home_number k (slice_get hs j)) (sym p)
    ∙ ap (if_number home_number k) there
    ∙ if_true (k == h.proc) (Some h) None (same_number k h.proc n)))

pub home_other : (k i : ℕ) (hs : List Home) (h : Home) → Rises (map home_number hs)
    → i ≡ place_among k (map home_number hs) → slice_get hs i ≡ Some h → (h.proc ≡ k → ⊥) → None ≡ home_in k hs
home_other k i hs h r p there n =
    sym (home_by k hs ∙ ap (option_map place_of)
    (found_at home_number k hs r ∙ ap (λ j. if_number home_number k (slice_get hs j)) (sym p)
    ∙ ap (if_number home_number k) there
    ∙ if_false (k == h.proc) (Some h) None (other_number k h.proc n)))

pub home_none : (k i : ℕ) (hs : List Home) → Rises (map home_number hs) → i ≡ place_among k (map home_number hs)
    → slice_get hs i ≡ None → None ≡ home_in k hs
home_none k i hs r p there =
    sym (home_by k hs ∙ ap (option_map place_of)
    (found_at home_number k hs r ∙ ap (λ j. if_number home_number k (slice_get hs j)) (sym p)
    ∙ ap (if_number home_number k) there))
