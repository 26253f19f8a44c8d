-- What the calls do to the readings of a farm: by channel, by question, by process.
use Rattle.std.proofs.Common.{◌≡◌, ℕ, zero, suc, ◌<◌, ◌≤◌, List, length, [], ◌∷◌, Bool, true, false, not, ◌&&◌, ◌||◌, ◌==◌, if◌then◌else◌, refl, sym, arith, ap, ◌∙◌, ⊎_elim, Some, None}
use Rattle.std.specs.declared.option.Option.{Option}
use Rattle.std.proofs.lemmas.Bool.{cases_Bool}
use Rattle.sq_machine.specs.Channels.{asked, free_count, freed, is_open, least_free, opened, settled, slot_at, times_open}
use Rattle.sq_channel.proofs.SlotLaws.{all_slots, free_asked, free_settled, length_asked, length_settled, open_once}
use Rattle.sq_machine.specs.Living.{Living, find_proc, settled_in, slots_by, slots_in}
use Rattle.sq_channel.proofs.RisingLaws.{if_false, if_true}

-- by channel: a send, and a reply
pub slot_asked_law : (q : ℕ) (slots : List (Option ℕ)) (n : ℕ) → 0 < free_count slots
    → slot_at (asked q slots) n ≡ (if n == least_free slots then Some q else slot_at slots n)
slot_asked_law q [] n f = absurd (omega arith)
slot_asked_law q (None ∷ slots) zero f = refl
slot_asked_law q (None ∷ slots) (suc n) f = sym (if_false (suc n == 0) (Some q) (slot_at slots n) (later n))
  where
    later : (n : ℕ) → (suc n == 0) ≡ false
    later n = grind arith
slot_asked_law q (Some p ∷ slots) zero f = sym
    (if_false (0 == suc (least_free slots)) (Some q) (Some p) (first (least_free slots)))
  where
    first : (n : ℕ) → (0 == suc n) ≡ false
    first n = grind arith
slot_asked_law q (Some p ∷ slots) (suc n) f = slot_asked_law q slots n f
    ∙ ap (λ b. if b then Some q else slot_at slots n) (down n (least_free slots))
  where
    down : (a b : ℕ) → (a == b) ≡ (suc a == suc b)
    down a b = grind arith

pub slot_settled_law : (q : ℕ) (slots : List (Option ℕ)) (n : ℕ)
    → slot_at (settled q slots) n ≡ freed q (slot_at slots n)
slot_settled_law q [] n = refl
slot_settled_law q (s ∷ slots) zero = refl
slot_settled_law q (s ∷ slots) (suc n) = slot_settled_law q slots n

-- by question
pub open_asked_law : (p q : ℕ) (slots : List (Option ℕ)) → 0 < free_count slots
    → is_open p (asked q slots) ≡ (p == q || is_open p slots)
open_asked_law p q [] f = absurd (omega arith)
open_asked_law p q (None ∷ slots) f = by_test (p == q)
  where
    by_test : (b : Bool) → (if b then true else is_open p slots) ≡ (b || is_open p slots)
    by_test true = refl
    by_test false = refl
open_asked_law p q (Some k ∷ slots) f = by_test (p == k) (p == q) (open_asked_law p q slots f)
  where
    by_test : (b d : Bool) → is_open p (asked q slots) ≡ (d || is_open p slots)
        → (if b then true else is_open p (asked q slots)) ≡ (d || (if b then true else is_open p slots))
    by_test true true e = refl
    by_test true false e = refl
    by_test false d e = e

pub open_settled_law : (p q : ℕ) (slots : List (Option ℕ))
    → is_open p (settled q slots) ≡ (not (p == q) && is_open p slots)
open_settled_law p q [] = none (p == q)
  where
    none : (b : Bool) → false ≡ (not b && false)
    none true = refl
    none false = refl
open_settled_law p q (None ∷ slots) = open_settled_law p q slots
open_settled_law p q (Some k ∷ slots) = front (q == k)
    ∙ numbers p q k (is_open p (settled q slots)) (is_open p slots) (open_settled_law p q slots)
  where
    front : (b : Bool) → is_open p ((if b then None else Some k) ∷ settled q slots)
        ≡ (if b then is_open p (settled q slots) else (if p == k then true else is_open p (settled q slots)))
    front true = refl
    front false = refl

    numbers : (p q k : ℕ) (a b : Bool) → a ≡ (not (p == q) && b)
        → (if q == k then a else (if p == k then true else a)) ≡ (not (p == q) && (if p == k then true else b))
    numbers p q k a b e = grind (arith, e)

-- how many are open
pub count_asked_law : (q : ℕ) (slots : List (Option ℕ)) → 0 < free_count slots
    → length (opened (asked q slots)) ≡ suc (length (opened slots))
count_asked_law q slots f = let a = all_slots slots in let b = all_slots (asked q slots) in
    let d = free_asked q slots f in let e = length_asked q slots in omega arith

pub count_settled_law : (q : ℕ) (slots : List (Option ℕ)) → is_open q slots ≡ true → times_open q slots ≤ 1
    → suc (length (opened (settled q slots))) ≡ length (opened slots)
count_settled_law q slots is once =
    let a = all_slots slots in let b = all_slots (settled q slots) in let d = free_settled q slots in
    let e = length_settled q slots in let one = open_once q slots is once in omega arith

-- by process: a reply to process k
pub slots_settled_law : (j k q : ℕ) (rows : List Living)
    → slots_in j (settled_in k q rows) ≡ (if j == k then settled q (slots_in j rows) else slots_in j rows)
slots_settled_law j k q [] = none (j == k)
  where
    none : (b : Bool) → ◌≡◌ {A = List (Option ℕ)} [] (if b then settled q [] else [])
    none true = refl
    none false = refl
slots_settled_law j k q (r ∷ rows) =
    ⊎_elim (λ y. ⊎_elim (mine y) (λ z. rest y z (slots_settled_law j k q rows)) (cases_Bool (j == r.number)))
    (λ y. ⊎_elim (other y) (λ z. rest_other y z (slots_settled_law j k q rows)) (cases_Bool (j == r.number)))
    (cases_Bool (k == r.number))
  where
    row' : Living
    row' = record r { process = record r.process { slots = settled q r.process.slots } }

    both : (k == r.number) ≡ true → (j == r.number) ≡ true → (j == k) ≡ true
    both y z = grind (arith, y, z)

    differ : (k == r.number) ≡ false → (j == r.number) ≡ true → (j == k) ≡ false
    differ y z = grind (arith, y, z)

    found : (p : Living) → p.number ≡ r.number → (j == r.number) ≡ true
        → slots_in j (p ∷ settled_in k q rows) ≡ p.process.slots
    found p e z = ap slots_by
        (if_true (j == p.number) (Some p.process) (find_proc j (settled_in k q rows)) (ap (λ n. j == n) e ∙ z))

    past : (p : Living) → p.number ≡ r.number → (j == r.number) ≡ false
        → slots_in j (p ∷ settled_in k q rows) ≡ slots_in j (settled_in k q rows)
    past p e z = ap slots_by
        (if_false (j == p.number) (Some p.process) (find_proc j (settled_in k q rows)) (ap (λ n. j == n) e ∙ z))

    was : (j == r.number) ≡ true → slots_in j (r ∷ rows) ≡ r.process.slots
    was z = ap slots_by (if_true (j == r.number) (Some r.process) (find_proc j rows) z)

    was_past : (j == r.number) ≡ false → slots_in j (r ∷ rows) ≡ slots_in j rows
    was_past z = ap slots_by (if_false (j == r.number) (Some r.process) (find_proc j rows) z)

    goal_is : List (Option ℕ) → List (Option ℕ)
    goal_is s = if j == k then settled q s else s

    mine : (k == r.number) ≡ true → (j == r.number) ≡ true
        → slots_in j (settled_in k q (r ∷ rows)) ≡ goal_is (slots_in j (r ∷ rows))
    mine y z = ap (λ p. slots_in j (p ∷ settled_in k q rows)) (if_true (k == r.number) row' r y) ∙ found row' refl z
        ∙ sym (if_true (j == k) (settled q (slots_in j (r ∷ rows))) (slots_in j (r ∷ rows)) (both y z)
        ∙ ap (settled q) (was z))

    rest : (k == r.number) ≡ true → (j == r.number) ≡ false
        → slots_in j (settled_in k q rows) ≡ goal_is (slots_in j rows)
        → slots_in j (settled_in k q (r ∷ rows)) ≡ goal_is (slots_in j (r ∷ rows))
    rest y z more = ap (λ p. slots_in j (p ∷ settled_in k q rows)) (if_true (k == r.number) row' r y) ∙ past row' refl z
        ∙ more ∙ sym (ap goal_is (was_past z))

    other : (k == r.number) ≡ false → (j == r.number) ≡ true
        → slots_in j (settled_in k q (r ∷ rows)) ≡ goal_is (slots_in j (r ∷ rows))
    other y z = ap (λ p. slots_in j (p ∷ settled_in k q rows)) (if_false (k == r.number) row' r y) ∙ found r refl z
        ∙ sym (if_false (j == k) (settled q (slots_in j (r ∷ rows))) (slots_in j (r ∷ rows)) (differ y z) ∙ was z)

    rest_other : (k == r.number) ≡ false → (j == r.number) ≡ false
        → slots_in j (settled_in k q rows) ≡ goal_is (slots_in j rows)
        → slots_in j (settled_in k q (r ∷ rows)) ≡ goal_is (slots_in j (r ∷ rows))
    rest_other y z more = ap (λ p. slots_in j (p ∷ settled_in k q rows)) (if_false (k == r.number) row' r y)
        ∙ past r refl z ∙ more ∙ sym (ap goal_is (was_past z))
