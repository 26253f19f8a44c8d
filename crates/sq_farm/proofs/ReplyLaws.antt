-- Laws of replies, and of processes that were started.
use Rattle.std.proofs.Common.{◌≡◌, ℕ, suc, ◌+◌, ◌≤◌, ◌<◌, max, List, [], ◌∷◌, ◌++◌, map, length, Bool, true, false, if◌then◌else◌, nat_lt, ◌==◌, refl, sym, arith, ap, ◌∙◌, Some, None, subst}
use Rattle.std.proofs.lemmas.List.{length-replicate}
use Rattle.std.specs.declared.option.Option.{Option}
use Rattle.sq_machine.specs.Channels.{is_open, opened, settled, times_open}
use Rattle.sq_channel.proofs.SlotLaws.{all_slots, free_settled, new_times, some_open, length_settled, times_settled, opened_new}
use Rattle.sq_machine.specs.Living.{Living, with_proc, find_proc, lives, living_number, settled_in, slots_by, slots_in, times_in}
use Rattle.sq_machine.specs.Farms.{fresh, started_in, AreOfClass, IsStock, Stock, open_in, places}
use Rattle.sq_machine.specs.Rising.{Rises}
use Rattle.sq_farm.proofs.LivingLaws.{gap, rises_with, with_higher, with_lower, around, times_around}
use Rattle.sq_farm.proofs.CallLaws.{lives_slots, settled_around, find_around}
use Rattle.sq_channel.proofs.RisingLaws.{if_false}
use Rattle.sq_farm.proofs.FarmLaws.{open_join}

-- a reply to question q of process k
pub numbers_settled_law : (k q : ℕ) (rows : List Living)
    → map living_number (settled_in k q rows) ≡ map living_number rows
numbers_settled_law k q [] = refl
numbers_settled_law k q (r ∷ rows) = by_test (k == r.number) (numbers_settled_law k q rows)
  where
    by_test : (b : Bool) → map living_number (settled_in k q rows) ≡ map living_number rows
        → map living_number ((if b then record r { process = record r.process { slots = settled q r.process.slots } }
        else r) ∷ settled_in k q rows) ≡ r.number ∷ map living_number rows
    by_test true e = ap (λ z. r.number ∷ z) e
    by_test false e = ap (λ z. r.number ∷ z) e

pub class_settled : (n k q : ℕ) (rows : List Living) → AreOfClass n rows → AreOfClass n (settled_in k q rows)
class_settled n k q [] a = tt
class_settled n k q (r ∷ rows) a = by_test (k == r.number) (class_settled n k q rows a.2)
  where
    by_test : (b : Bool) → AreOfClass n (settled_in k q rows)
        → AreOfClass n ((if b then record r { process = record r.process { slots = settled q r.process.slots } } else r)
        ∷ settled_in k q rows)
    by_test true more = (length_settled q r.process.slots ∙ a.0, a.1, more)
    by_test false more = (a.0, a.1, more)

pub fewer_times : (p q : ℕ) (slots : List (Option ℕ)) → times_open p (settled q slots) ≤ times_open p slots
fewer_times p q slots = by_test (p == q) (times_settled p q slots)
  where
    by_test : (b : Bool) → times_open p (settled q slots) ≡ (if b then 0 else times_open p slots)
        → times_open p (settled q slots) ≤ times_open p slots
    by_test true e = omega arith
    by_test false e = omega arith

pub times_settled_in : (p k q : ℕ) (rows : List Living) → times_in p (settled_in k q rows) ≤ times_in p rows
times_settled_in p k q [] = omega arith
times_settled_in p k q (r ∷ rows) = by_test (k == r.number) (times_settled_in p k q rows)
  where
    by_test : (b : Bool) → times_in p (settled_in k q rows) ≤ times_in p rows
        → times_in p ((if b then record r { process = record r.process { slots = settled q r.process.slots } } else r)
        ∷ settled_in k q rows) ≤ times_open p r.process.slots + times_in p rows
    by_test true e = let f = fewer_times p q r.process.slots in omega arith
    by_test false e = omega arith

-- every other question stays
pub others_settled : (p k q : ℕ) (rows : List Living) → (p == q) ≡ false
    → times_in p (settled_in k q rows) ≡ times_in p rows
others_settled p k q [] n = refl
others_settled p k q (r ∷ rows) n = by_test (k == r.number) (others_settled p k q rows n)
  where
    by_test : (b : Bool) → times_in p (settled_in k q rows) ≡ times_in p rows
        → times_in p ((if b then record r { process = record r.process { slots = settled q r.process.slots } } else r)
        ∷ settled_in k q rows) ≡ times_open p r.process.slots + times_in p rows
    by_test true e = let f = times_settled p q r.process.slots ∙ if_false (p == q) 0 (times_open p r.process.slots) n in
        omega arith
    by_test false e = omega arith

pub length_settled_in : (k q : ℕ) (rows : List Living) → length (settled_in k q rows) ≡ length rows
length_settled_in k q [] = refl
length_settled_in k q (r ∷ rows) = ap suc (length_settled_in k q rows)

pub open_settled_law : (k q : ℕ) (rows : List Living) → Rises (map living_number rows)
    → is_open q (slots_in k rows) ≡ true → times_in q rows ≤ 1 → open_in rows ≡ suc (open_in (settled_in k q rows))
open_settled_law k q rows rises opened once =
    let f = around k rows rises (lives_slots k q rows opened) in
    let found : find_proc k rows ≡ Some f.row.process = ap (find_proc k) f.are
    ∙ find_around k f.before f.row f.after f.number f.lower in
    let slots = f.row.process.slots in
    let here : is_open q slots ≡ true = sym (ap (λ o. is_open q (slots_by o)) found) ∙ opened in
    let row' : Living = record f.row { process = record f.row.process { slots = settled q slots } } in
    let settled_is : settled_in k q rows ≡ f.before ++ row' ∷ f.after = ap (settled_in k q) f.are
    ∙ settled_around k q f.before f.row f.after f.number f.lower f.higher in
    let t = ap (times_in q) f.are in let u = times_around q f.before f.row f.after in
    let some = some_open q slots here in
    let one : times_open q slots ≡ 1 = omega arith in
    let a = ap open_in f.are in let b = open_join f.before (f.row ∷ f.after) in
    let d = ap open_in settled_is in let e = open_join f.before (row' ∷ f.after) in
    let g = all_slots slots in let h = all_slots (settled q slots) in let i = length_settled q slots in
    let j = free_settled q slots in
    omega arith

pub IsStock_settled : (v : Stock) (k q : ℕ) → IsStock v → is_open q (slots_in k v.procs) ≡ true
    → IsStock (record v { procs = settled_in k q v.procs })
IsStock_settled v k q is opened = record {
  concurrency_is = is.concurrency_is;
  children_are = is.children_are;
  queue_size_is = is.queue_size_is;
  owed_is = is.owed_is;
  few_procs = rw (length_settled_in k q v.procs) is.few_procs;
  rising = rw (numbers_settled_law k q v.procs) is.rising;
  of_class = class_settled v.concurrency k q v.procs is.of_class;
  few_questions = let a = is.few_questions in
      let b = open_settled_law k q v.procs is.rising opened (let c = is.once q in omega arith) in omega arith;
  once = λ p. let a = is.once p in let b = times_settled_in p k q v.procs in omega arith;
}

-- a process more
pub times_with : (q : ℕ) (p : Living) (rows : List Living)
    → times_in q (with_proc p rows) ≡ times_open q p.process.slots + times_in q rows
times_with q p [] = refl
times_with q p (r ∷ rows) = by_test (nat_lt r.number p.number) (times_with q p rows)
  where
    by_test : (b : Bool) → times_in q (with_proc p rows) ≡ times_open q p.process.slots + times_in q rows
        → times_in q (if b then r ∷ with_proc p rows else p ∷ r ∷ rows) ≡ times_open q p.process.slots
        + (times_open q r.process.slots + times_in q rows)
    by_test true e = omega arith
    by_test false e = refl

pub open_with : (p : Living) (rows : List Living)
    → open_in (with_proc p rows) ≡ length (opened p.process.slots) + open_in rows
open_with p [] = refl
open_with p (r ∷ rows) = by_test (nat_lt r.number p.number) (open_with p rows)
  where
    by_test : (b : Bool) → open_in (with_proc p rows) ≡ length (opened p.process.slots) + open_in rows
        → open_in (if b then r ∷ with_proc p rows else p ∷ r ∷ rows) ≡ length (opened p.process.slots)
        + (length (opened r.process.slots) + open_in rows)
    by_test true e = omega arith
    by_test false e = refl

pub length_with : (p : Living) (rows : List Living) → length (with_proc p rows) ≡ suc (length rows)
length_with p [] = refl
length_with p (r ∷ rows) = by_test (nat_lt r.number p.number) (length_with p rows)
  where
    by_test : (b : Bool) → length (with_proc p rows) ≡ suc (length rows)
        → length (if b then r ∷ with_proc p rows else p ∷ r ∷ rows) ≡ suc (suc (length rows))
    by_test true e = ap suc e
    by_test false e = refl

pub class_with : (n : ℕ) (p : Living) (rows : List Living) → length p.process.slots ≡ max 1 n
    → p.process.numbered ≡ nat_lt 0 n → AreOfClass n rows → AreOfClass n (with_proc p rows)
class_with n p [] l m a = (l, m, tt)
class_with n p (r ∷ rows) l m a = by_test (nat_lt r.number p.number) (class_with n p rows l m a.2)
  where
    by_test : (b : Bool) → AreOfClass n (with_proc p rows)
        → AreOfClass n (if b then r ∷ with_proc p rows else p ∷ r ∷ rows)
    by_test true more = (a.0, a.1, more)
    by_test false more = (l, m, a)

pub open_started : (v : Stock) (k : ℕ) → open_in (with_proc (fresh v.concurrency k) v.procs) ≡ open_in v.procs
open_started v k = let a = open_with (fresh v.concurrency k) v.procs in
    let b = ap length (opened_new (max 1 v.concurrency)) in omega arith

pub IsStock_started : (v : Stock) (k : ℕ) → IsStock v → lives k v.procs ≡ false → 0 < v.starting
    → IsStock (started_in k v)
IsStock_started v k is other some =
    let p = fresh v.concurrency k in
    let g = gap k v.procs is.rising other in
    let with_is : with_proc p v.procs ≡ g.before ++ p ∷ g.after = ap (with_proc p) g.are
    ∙ with_lower p g.before g.after g.lower ∙ ap (λ z. g.before ++ z) (with_higher p g.after g.higher) in
    record {
      concurrency_is = is.concurrency_is;
      children_are = is.children_are;
      queue_size_is = is.queue_size_is;
      owed_is = is.owed_is;
      few_procs = let a = is.few_procs in let b = length_with p v.procs in omega arith;
      rising = subst (λ z. Rises (map living_number z)) (sym with_is)
          (rises_with p g.before g.after g.lower g.higher (subst (λ z. Rises (map living_number z)) g.are is.rising));
      of_class = class_with v.concurrency p v.procs (length-replicate (max 1 v.concurrency) None) refl is.of_class;
      few_questions = let a = is.few_questions in let b = open_started v k in omega arith;
      once = λ q. let a = is.once q in let b = times_with q p v.procs in let d = new_times q (max 1 v.concurrency) in
          omega arith;
    }

-- a process that was started has no question
pub places_started : (v : Stock) (k q : ℕ) → places q (started_in k v) ≡ places q v
places_started v k q = let a = times_with q (fresh v.concurrency k) v.procs in
    let b = new_times q (max 1 v.concurrency) in omega arith
