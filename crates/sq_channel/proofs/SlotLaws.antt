-- Laws of the channels of a process.
use Rattle.std.proofs.Common.{◌≡◌, ℕ, zero, suc, ◌+◌, ◌≤◌, ◌<◌, List, [], ◌∷◌, ◌++◌, length, set, replicate, Bool, true, false, ◌==◌, if◌then◌else◌, Some, None, refl, arith, ap, ◌∙◌}
use Rattle.std.proofs.lemmas.List.{length-replicate}
use Rattle.std.specs.declared.option.Option.{Option}
use Rattle.std.specs.Option.{option_to_list}
use Rattle.sq_machine.specs.Channels.{Channels, IsProcess, asked, drained, first_open, free_count, is_open, least_free, opened, settled, times_open, slot_at, slot_of}

-- the free channels and the open questions are all channels
pub all_slots : (slots : List (Option ℕ)) → free_count slots + length (opened slots) ≡ length slots
all_slots [] = refl
all_slots (None ∷ slots) = let r = all_slots slots in omega arith
all_slots (Some q ∷ slots) = let r = all_slots slots in omega arith

-- a question that is nowhere open has no channel
pub none_open : (q : ℕ) (slots : List (Option ℕ)) → is_open q slots ≡ false → times_open q slots ≡ 0
none_open q [] e = refl
none_open q (None ∷ slots) e = none_open q slots e
none_open q (Some p ∷ slots) e = by_test (q == p) (none_open q slots) e
  where
    by_test : (b : Bool) → (is_open q slots ≡ false → times_open q slots ≡ 0)
        → (if b then true else is_open q slots) ≡ false
        → (if b then suc (times_open q slots) else times_open q slots) ≡ 0
    by_test true next e = cc
    by_test false next e = next e

-- a free channel is there
pub least_within : (slots : List (Option ℕ)) → 0 < free_count slots → least_free slots < length slots
least_within [] f = absurd (omega arith)
least_within (None ∷ slots) f = omega arith
least_within (Some q ∷ slots) f = let r = least_within slots f in omega arith

-- to set the least free slot is to ask
pub set_asked : (q : ℕ) (slots : List (Option ℕ)) → 0 < free_count slots
    → set slots (least_free slots) (Some q) ≡ asked q slots
set_asked q [] f = refl
set_asked q (None ∷ slots) f = refl
set_asked q (Some p ∷ slots) f = ap (λ s. Some p ∷ s) (set_asked q slots f)

-- a question takes one free slot
pub free_asked : (q : ℕ) (slots : List (Option ℕ)) → 0 < free_count slots
    → free_count (asked q slots) + 1 ≡ free_count slots
free_asked q [] f = absurd (omega arith)
free_asked q (None ∷ slots) f = omega arith
free_asked q (Some p ∷ slots) f = free_asked q slots f

-- a question leaves as many slots as there were
pub length_asked : (q : ℕ) (slots : List (Option ℕ)) → length (asked q slots) ≡ length slots
length_asked q [] = refl
length_asked q (None ∷ slots) = refl
length_asked q (Some p ∷ slots) = ap suc (length_asked q slots)

-- how often a question is open after one was asked
pub times_asked : (p q : ℕ) (slots : List (Option ℕ)) → 0 < free_count slots
    → times_open p (asked q slots) ≡ (if p == q then suc (times_open p slots) else times_open p slots)
times_asked p q [] f = absurd (omega arith)
times_asked p q (None ∷ slots) f = refl
times_asked p q (Some k ∷ slots) f = step (p == k) (p == q) (times_asked p q slots f)
  where
    step : (b d : Bool) → times_open p (asked q slots) ≡ (if d then suc (times_open p slots) else times_open p slots)
        → (if b then suc (times_open p (asked q slots)) else times_open p (asked q slots))
        ≡ (if d then suc (if b then suc (times_open p slots) else times_open p slots)
        else (if b then suc (times_open p slots) else times_open p slots))
    step true true e = ap suc e
    step true false e = ap suc e
    step false true e = e
    step false false e = e

-- a process stays one when a question that it has not is asked
pub IsProcess_asked : (p : Channels) (q : ℕ) → IsProcess p → 0 < free_count p.slots → is_open q p.slots ≡ false
    → IsProcess (record p { slots = asked q p.slots })
IsProcess_asked p q is f other = record {
  some_slot = rw (length_asked q p.slots) is.some_slot;
  few_slots = rw (length_asked q p.slots) is.few_slots;
  once = λ k. rw (times_asked k q p.slots f)
      (one_more k q (times_open k p.slots) (times_open q p.slots) (is.once k) (none_open q p.slots other)
      (λ e. ap (λ n. times_open n p.slots) e));
}
  where
    one_more : (k q n m : ℕ) → n ≤ 1 → m ≡ 0 → (k ≡ q → n ≡ m) → (if k == q then suc n else n) ≤ 1
    one_more k q n m few none same = grind (arith, few, none, same)

-- to settle a question that is not open changes nothing
pub settled_none : (q : ℕ) (slots : List (Option ℕ)) → times_open q slots ≡ 0 → settled q slots ≡ slots
settled_none q [] e = refl
settled_none q (None ∷ slots) e = ap (λ s. None ∷ s) (settled_none q slots e)
settled_none q (Some p ∷ slots) e = by_test (q == p) (settled_none q slots) e
  where
    by_test : (b : Bool) → (times_open q slots ≡ 0 → settled q slots ≡ slots)
        → (if b then suc (times_open q slots) else times_open q slots) ≡ 0
        → (if b then None else Some p) ∷ settled q slots ≡ Some p ∷ slots
    by_test true next e = cc
    by_test false next e = ap (λ s. Some p ∷ s) (next e)

-- a settled question leaves as many slots as there were
pub length_settled : (q : ℕ) (slots : List (Option ℕ)) → length (settled q slots) ≡ length slots
length_settled q [] = refl
length_settled q (s ∷ slots) = ap suc (length_settled q slots)

-- a settled question frees the slots that it had
pub free_settled : (q : ℕ) (slots : List (Option ℕ))
    → free_count (settled q slots) ≡ free_count slots + times_open q slots
free_settled q [] = refl
free_settled q (None ∷ slots) = let r = free_settled q slots in omega arith
free_settled q (Some p ∷ slots) = by_test (q == p) (free_settled q slots)
  where
    by_test : (b : Bool) → free_count (settled q slots) ≡ free_count slots + times_open q slots
        → free_count ((if b then None else Some p) ∷ settled q slots) ≡ free_count slots
        + (if b then suc (times_open q slots) else times_open q slots)
    by_test true next = omega arith
    by_test false next = next

-- how often a question is open after one was settled
pub times_settled : (k q : ℕ) (slots : List (Option ℕ))
    → times_open k (settled q slots) ≡ (if k == q then 0 else times_open k slots)
times_settled k q [] = grind arith
times_settled k q (None ∷ slots) = times_settled k q slots
times_settled k q (Some p ∷ slots) = front (q == p)
    ∙ numbers k q p (times_open k slots) (times_open k (settled q slots)) (times_settled k q slots)
  where
    front : (b : Bool) → times_open k ((if b then None else Some p) ∷ settled q slots)
        ≡ (if b then times_open k (settled q slots)
        else (if k == p then suc (times_open k (settled q slots)) else times_open k (settled q slots)))
    front true = refl
    front false = refl

    numbers : (k q p n m : ℕ) → m ≡ (if k == q then 0 else n)
        → (if q == p then m else (if k == p then suc m else m)) ≡ (if k == q then 0 else (if k == p then suc n else n))
    numbers k q p n m e = grind (arith, e)

-- an open question stands on one channel at least
pub some_open : (q : ℕ) (slots : List (Option ℕ)) → is_open q slots ≡ true → 1 ≤ times_open q slots
some_open q [] e = cc
some_open q (None ∷ slots) e = some_open q slots e
some_open q (Some p ∷ slots) e = by_test (q == p) (some_open q slots) e
  where
    by_test : (b : Bool) → (is_open q slots ≡ true → 1 ≤ times_open q slots)
        → (if b then true else is_open q slots) ≡ true
        → 1 ≤ (if b then suc (times_open q slots) else times_open q slots)
    by_test true next e = omega arith
    by_test false next e = next e

-- a question that is open, and at most once, is open once
pub open_once : (q : ℕ) (slots : List (Option ℕ)) → is_open q slots ≡ true → times_open q slots ≤ 1
    → times_open q slots ≡ 1
open_once q slots e once = let some = some_open q slots e in omega arith

-- no more slots are free than there are
pub free_within : (slots : List (Option ℕ)) → free_count slots ≤ length slots
free_within slots = let r = all_slots slots in omega arith

-- a process stays one when a question is settled
pub IsProcess_settled : (p : Channels) (q : ℕ) → IsProcess p → IsProcess (record p { slots = settled q p.slots })
IsProcess_settled p q is = record {
  some_slot = rw (length_settled q p.slots) is.some_slot;
  few_slots = rw (length_settled q p.slots) is.few_slots;
  once = λ k. rw (times_settled k q p.slots) (fewer k q (times_open k p.slots) (is.once k));
}
  where
    fewer : (k q n : ℕ) → n ≤ 1 → (if k == q then 0 else n) ≤ 1
    fewer k q n few = grind (arith, few)

-- what is found on a channel is open
pub open_at : (slots : List (Option ℕ)) (n q : ℕ) → slot_at slots n ≡ Some q → is_open q slots ≡ true
open_at [] n q e = cc
open_at (None ∷ slots) zero q e = cc
open_at (Some p ∷ slots) zero q e = let same : p ≡ q = cc in rw same (itself q)
  where
    itself : (q : ℕ) → (if q == q then true else is_open q slots) ≡ true
    itself q = grind arith
open_at (None ∷ slots) (suc n) q e = open_at slots n q e
open_at (Some p ∷ slots) (suc n) q e = either (q == p) (open_at slots n q e)
  where
    either : (b : Bool) → is_open q slots ≡ true → (if b then true else is_open q slots) ≡ true
    either true e = refl
    either false e = e

-- a question in a slot is open
pub open_of_law : (slots : List (Option ℕ)) (channel : Option ℕ) (q : ℕ) → slot_of slots channel ≡ Some q
    → is_open q slots ≡ true
open_of_law slots None q e = open_at slots 0 q e
open_of_law slots (Some n) q e = open_at slots n q e

-- draining
pub opened_drained : (slots : List (Option ℕ))
    → opened slots ≡ option_to_list (first_open slots) ++ opened (drained slots)
opened_drained [] = refl
opened_drained (None ∷ slots) = opened_drained slots
opened_drained (Some q ∷ slots) = refl

-- what is drained is open, and to drain it is to settle it
pub first_open_law : (slots : List (Option ℕ)) (q : ℕ) → first_open slots ≡ Some q → is_open q slots ≡ true
first_open_law [] q e = cc
first_open_law (None ∷ slots) q e = first_open_law slots q e
first_open_law (Some p ∷ slots) q e = let same : p ≡ q = cc in rw same (itself q)
  where
    itself : (q : ℕ) → (if q == q then true else is_open q slots) ≡ true
    itself q = grind arith

-- to settle the first open question is to hand it out
pub settled_first : (slots : List (Option ℕ)) (q : ℕ) → first_open slots ≡ Some q → times_open q slots ≤ 1
    → settled q slots ≡ drained slots
settled_first [] q e once = refl
settled_first (None ∷ slots) q e once = ap (λ s. None ∷ s) (settled_first slots q e once)
settled_first (Some p ∷ slots) q e once = let same : p ≡ q = cc in by_test (q == p) (grind (arith, same)) once
  where
    by_test : (b : Bool) → b ≡ true → (if b then suc (times_open q slots) else times_open q slots) ≤ 1
        → (if b then None else Some p) ∷ settled q slots ≡ None ∷ slots
    by_test true e once = ap (λ s. None ∷ s) (settled_none q slots (omega arith))
    by_test false e once = cc

-- where no question is open nothing is handed out
pub drained_none : (slots : List (Option ℕ)) → first_open slots ≡ None → drained slots ≡ slots
drained_none [] e = refl
drained_none (None ∷ slots) e = ap (λ s. None ∷ s) (drained_none slots e)
drained_none (Some q ∷ slots) e = cc

-- all slots of a new process are free
pub new_slots : (n : ℕ) → free_count (replicate n None) ≡ n
new_slots zero = refl
new_slots (suc n) = ap suc (new_slots n)

-- a process that just began has no open question
pub opened_new : (n : ℕ) → opened (replicate n None) ≡ []
opened_new zero = refl
opened_new (suc n) = opened_new n

-- a new process has no open question
pub new_times : (q n : ℕ) → times_open q (replicate n None) ≡ 0
new_times q zero = refl
new_times q (suc n) = new_times q n

-- a new process is one
pub IsProcess_new : (numbered : Bool) (n : ℕ) → 1 ≤ n → n < 4294967296
    → IsProcess (record { numbered = numbered; slots = replicate n None })
IsProcess_new numbered n some few = record {
  some_slot = rw (length-replicate {A = Option ℕ} n None) some;
  few_slots = rw (length-replicate {A = Option ℕ} n None) few;
  once = λ q. rw (new_times q n) (omega arith);
}
