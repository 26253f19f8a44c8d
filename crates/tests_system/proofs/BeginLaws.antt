-- What the books count when a desk has begun, and the share of a control.
use Rattle.std.proofs.Common.{◌≡◌, ℕ, ◌+◌, ◌^◌, ◌==◌, if◌then◌else◌, min, Bool, true, false, Result, Ok, Err, [], ◌∷◌, Some, None, IfSome, refl, sym, subst, ◌∙◌, arith}
use Rattle.std.proofs.lemmas.Bool.Decides.{nat_tests}
use Rattle.std.specs.Prelude.{ℤ}
use Rattle.std.specs.Option.{ForSome}
use Rattle.std.specs.declared.option.Option.{Option}
use Rattle.sq_outside.specs.Causes.{count_limit}
use Rattle.sq_machine.specs.declared.entries.Event.TheVariants as event
use Rattle.sq_machine.specs.declared.entries.Told.TheVariants as told
use Rattle.sq_machine.specs.Entries.{History, entry_at}
use Rattle.sq_machine.specs.Readings.{current}
use Rattle.sq_journal.specs.Noting.{with_entry}
use Rattle.sq_calls.specs.Telling.{CountsReconfigured}
use Rattle.sq_calls.specs.declared.faults.DeskFault.{DeskFault}
use Rattle.sq_shared.specs.Books.{AreCounted, asks_in}

counted_first : (h : History) (moment : ℕ) (offset : ℤ) → h ≡ []
    → (0 ≡ asks_in (entry_at moment (event.Begin offset) (told.Epoch 1) ∷ h))
    × (0 + 1 ≡ current (entry_at moment (event.Begin offset) (told.Epoch 1) ∷ h))
counted_first h moment offset e =
    subst (λ (k : History). (0 ≡ asks_in (entry_at moment (event.Begin offset) (told.Epoch 1) ∷ k))
    × (0 + 1 ≡ current (entry_at moment (event.Begin offset) (told.Epoch 1) ∷ k)))
    (sym e) (refl, refl)

if_first : (before : Option History) (moment : ℕ) (offset : ℤ) → IfSome before (λ h. h ≡ [])
    → IfSome (with_entry (entry_at moment (event.Begin offset) (told.Epoch 1)) before)
    (λ h. (0 ≡ asks_in h) × (0 + 1 ≡ current h))
if_first None moment offset e = tt
if_first (Some h) moment offset e = counted_first h moment offset e

for_if : {T : Type 0} (o : Option T) (P : T → Type 0) → IfSome o P → ForSome o P
for_if None P p x e = absurd (cc)
for_if (Some y) P p x e = let same : y ≡ x = cc in subst P same p

-- the first entry is neither a request nor a reconfiguration
pub first_counted : (before now : Option History) (moment : ℕ) (offset : ℤ) → IfSome before (λ h. h ≡ [])
    → now ≡ with_entry (entry_at moment (event.Begin offset) (told.Epoch 1)) before → AreCounted 0 0 now
first_counted before now moment offset none is = subst (AreCounted 0 0) (sym is)
    (for_if _ _ (if_first before moment offset none))

-- what books count that count nothing
pub counted_none : (told : Option History) (asks makes : ℕ) → asks ≡ 0 → makes ≡ 0 → AreCounted 0 0 told
    → AreCounted asks makes told
counted_none told asks makes a m c = subst (λ k. AreCounted k makes told) (sym a)
    (subst (λ k. AreCounted 0 k told) (sym m) c)

pub made_none : (made : Option ℕ) (total : ℕ) → total ≡ 0 → ForSome made (λ m. m ≡ 0) → ForSome made (λ m. m ≡ total)
made_none made total t is m e = is m e ∙ sym t

pub refused_none : (refused total : ℕ) → refused ≡ 0 → total ≡ 0 → refused ≡ min total count_limit
refused_none refused total r t = grind arith

pub granted_none : (pools tags total : ℕ) → pools ≡ 0 → tags ≡ 0 → total ≡ 0
    → min (2 ^ 127) (pools + tags) ≡ min (2 ^ 127) total
granted_none pools tags total p g t = grind arith

whole_if : (t u : Bool) (a b : ℕ) (r : Result ℕ DeskFault) → t ≡ true
    → CountsReconfigured (if t then Some a else None) (if u then Some b else None) r → u ≡ true
whole_if t true a b r e c = refl
whole_if true false a b (Ok x) e (is, n) = absurd (cc)
whole_if true false a b (Err f) e is = absurd (cc)
whole_if false false a b r e c = absurd (cc)

is_same : (p m : ℕ) → (p == m) ≡ true → p ≡ m
is_same p m e = grind (arith, nat_tests)

is_true : (p m : ℕ) → p ≡ m → (p == m) ≡ true
is_true p m e = grind (arith, nat_tests)

-- a share that told its count and tells it still is the whole of its book still
pub whole_share : (p q m a b : ℕ) (r : Result ℕ DeskFault) → p ≡ m
    → CountsReconfigured (if p == m then Some a else None) (if q == m then Some b else None) r → q ≡ m
whole_share p q m a b r e c = is_same q m (whole_if (p == m) (q == m) a b r (is_true p m e) c)
