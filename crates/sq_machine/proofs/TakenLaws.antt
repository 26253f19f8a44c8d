-- Laws of the records that were last taken on connections: their epochs have begun.
use Rattle.std.proofs.Common.{◌≡◌, ◌==◌, ◌≤◌, if◌then◌else◌, Bool, true, false, ℕ, [], ◌∷◌, Option, None, Some, refl, ap, sym, arith}
use Rattle.std.specs.Option.{option_map, option_or}
use Rattle.sq_machine.specs.Checks.{Asked, ask_count, ask_of, asked_by, conn_of, numbered}
use Rattle.sq_machine.specs.Entries.{History}
use Rattle.sq_machine.specs.Events.{Asking, asking, begins_epoch, is_number}
use Rattle.sq_machine.specs.Readings.{current, epoch_after}
use Rattle.sq_machine.specs.TakenRecords.{TakenCheck, allowed_of, if_allowed, taken_after, taken_of, taking}
use Rattle.sq_machine.specs.declared.entries.Event.{Event}
use Rattle.sq_machine.specs.declared.entries.Event.TheVariants.{Close, Take}
use Rattle.sq_machine.specs.declared.entries.Told.{Told}
use Rattle.sq_machine.specs.declared.entries.Told.TheVariants as told

epoch_rises : (b : Bool) (e : ℕ) → e ≤ epoch_after b e
epoch_rises true e = omega arith
epoch_rises false e = omega arith

asked_by_epoch : (o : Option Asking) (h : History) (moment e : ℕ) (before : Option Asked) (a : Asked) → current h ≤ e
    → ((b : Asked) → before ≡ Some b → b.epoch ≤ e)
    → option_or (option_map (asked_by h moment) o) before ≡ Some a → a.epoch ≤ e
asked_by_epoch None h moment e before a low old is = old a is
asked_by_epoch (Some x) h moment e before a low old is =
    let same : asked_by h moment x ≡ a = cc in
    let epoch : current h ≡ a.epoch = ap (λ (y : Asked). y.epoch) same in
    omega arith

-- for a check: its epoch has begun
ask_epoch : (h : History) (n : ℕ) (a : Asked) → ask_of h n ≡ Some a → a.epoch ≤ current h
unfolding ask_of
ask_epoch [] n a is = absurd (cc)
ask_epoch (x ∷ h) n a is =
    let more = epoch_rises (begins_epoch x.event) (current h) in
    asked_by_epoch (numbered n (ask_count h) (asking x.event)) h x.moment (current (x ∷ h)) (ask_of h n) a more
    (λ b was. let low = ask_epoch h n b was in omega arith) is

taking_epoch : (answer : Told) (o : Option Asked) (t : TakenCheck) (e : ℕ) → ((a : Asked) → o ≡ Some a → a.epoch ≤ e)
    → taking answer o ≡ Some t → t.asked.epoch ≤ e
taking_epoch (told.Judged k out) (Some a) t e low is =
    let same : a ≡ t.asked = cc in
    rw (sym same) (low a refl)
taking_epoch answer o t e low is = absurd (cc)

taken_by_epoch : (h : History) (c : ℕ) (event : Event) (answer : Told) (before : Option TakenCheck) (t : TakenCheck)
    (e : ℕ) → current h ≤ e → ((b : TakenCheck) → before ≡ Some b → b.asked.epoch ≤ e)
    → taken_after h c event answer before ≡ Some t → t.asked.epoch ≤ e
taken_by_epoch h c (Take n) answer before t e low old is = by_test (is_number c (conn_of h n)) is where
  by_test : (b : Bool) → (if b then taking answer (ask_of h n) else before) ≡ Some t → t.asked.epoch ≤ e
  by_test true is = taking_epoch answer (ask_of h n) t e (λ a was. let low_now = ask_epoch h n a was in omega arith) is
  by_test false is = old t is
taken_by_epoch h c (Close d) answer before t e low old is = by_test (d == c) is where
  by_test : (b : Bool) → (if b then None else before) ≡ Some t → t.asked.epoch ≤ e
  by_test true is = absurd (cc)
  by_test false is = old t is
taken_by_epoch h c event answer before t e low old is = old t is

-- for a record that was taken: its epoch has begun
taken_epoch : (h : History) (c : ℕ) (t : TakenCheck) → taken_of h c ≡ Some t → t.asked.epoch ≤ current h
taken_epoch [] c t is = absurd (cc)
taken_epoch (x ∷ h) c t is =
    let more = epoch_rises (begins_epoch x.event) (current h) in
    taken_by_epoch h c x.event x.answer (taken_of h c) t (current (x ∷ h)) more
    (λ b was. let low = taken_epoch h c b was in omega arith) is

-- for a record that allows: its epoch has begun
pub allowed_epoch : (h : History) (c : ℕ) (a : Asked) → allowed_of h c ≡ Some a → a.epoch ≤ current h
allowed_epoch h c a is = by_taken (taken_of h c) refl is where
  by_taken : (o : Option TakenCheck) → taken_of h c ≡ o → if_allowed o ≡ Some a → a.epoch ≤ current h
  by_taken None was is = absurd (cc)
  by_taken (Some t) was is = by_test t.allows is where
    by_test : (b : Bool) → (if b then Some t.asked else None) ≡ Some a → a.epoch ≤ current h
    by_test true is = let same : t.asked ≡ a = cc in rw (sym same) (taken_epoch h c t was)
    by_test false is = absurd (cc)
