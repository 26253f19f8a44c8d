-- Laws of the farm: sends, ends of processes, failed starts.
use Rattle.std.proofs.Common.{◌≡◌, ℕ, suc, ◌+◌, ◌≤◌, List, [], ◌∷◌, ◌++◌, map, length, Bool, true, false, if◌then◌else◌, ◌==◌, refl, sym, arith, ap, ◌∙◌, ⊎_elim, Some, None, subst}
use Rattle.std.specs.declared.option.Option.{Option}
use Rattle.std.proofs.lemmas.Bool.{cases_Bool, ltb-true}
use Rattle.sq_base.specs.declared.helpers.Cause.{Cause}
use Rattle.sq_base.specs.declared.helpers.Cause.TheVariants as cause
use Rattle.sq_machine.specs.Channels.{asked, free_count, opened, times_open}
use Rattle.sq_channel.proofs.SlotLaws.{all_slots, free_asked, length_asked, times_asked}
use Rattle.sq_machine.specs.Farms.{Waiting, AreOfClass, emptied, IsStock, Stock, ended, open_in, times_waiting, waiting_number}
use Rattle.sq_machine.specs.Losses.{Loss, lose, lose_all, times_lost}
use Rattle.sq_machine.specs.Living.{Living, asked_row, find_proc, has_free, lives, living_number, sent, slots_by, slots_in, some_free, times_in, without}
use Rattle.sq_machine.specs.Rising.{Rises, times_of}
use Rattle.sq_farm.proofs.LivingLaws.{around, rises_without, times_around}
use Rattle.sq_farm.proofs.CallLaws.{find_around, times_join, without_around}
use Rattle.sq_farm.proofs.LostLaws.{length_lose, times_lose}
use Rattle.sq_channel.proofs.RisingLaws.{if_false, if_true}

pub times_opened_law : (q : ℕ) (slots : List (Option ℕ)) → times_open q slots ≡ times_of q (opened slots)
times_opened_law q [] = refl
times_opened_law q (None ∷ slots) = times_opened_law q slots
times_opened_law q (Some p ∷ slots) = ap (λ n. if q == p then suc n else n) (times_opened_law q slots)

pub times_queue : (q : ℕ) (queue : List Waiting) → times_waiting q queue ≡ times_of q (map waiting_number queue)
times_queue q [] = refl
times_queue q (w ∷ queue) = ap (λ n. if q == w.question then suc n else n) (times_queue q queue)

-- questions that are lost are lost
pub times_lose_all : (q : ℕ) (c : Cause) (qs : List ℕ) (ls : List Loss)
    → times_lost q (lose_all c qs ls) ≡ times_of q qs + times_lost q ls
times_lose_all q c [] ls = omega arith
times_lose_all q c (p ∷ qs) ls = by_test (q == p) (times_lose_all q c qs (lose p c ls)) (times_lose q p c ls)
  where
    by_test : (b : Bool) → times_lost q (lose_all c qs (lose p c ls)) ≡ times_of q qs + times_lost q (lose p c ls)
        → times_lost q (lose p c ls) ≡ (if b then suc (times_lost q ls) else times_lost q ls)
        → times_lost q (lose_all c qs (lose p c ls)) ≡ (if b then suc (times_of q qs) else times_of q qs)
        + times_lost q ls
    by_test true e f = omega arith
    by_test false e f = omega arith

pub length_lose_all : (c : Cause) (qs : List ℕ) (ls : List Loss) → length (lose_all c qs ls) ≡ length qs + length ls
length_lose_all c [] ls = omega arith
length_lose_all c (q ∷ qs) ls = let a = length_lose_all c qs (lose q c ls) in let b = length_lose q c ls in omega arith

-- a send
pub times_sent : (p q : ℕ) (rows : List Living) → some_free rows ≡ true
    → times_in p (sent q rows) ≡ (if p == q then suc (times_in p rows) else times_in p rows)
times_sent p q [] f = cc
times_sent p q (r ∷ rows) f = ⊎_elim here
    (λ y. there y (times_sent p q rows (sym (if_false (has_free r) true (some_free rows) y) ∙ f)))
    (cases_Bool (has_free r))
  where
    add : (b : Bool) (a n m : ℕ) → a ≡ (if b then suc n else n) → a + m ≡ (if b then suc (n + m) else n + m)
    add true a n m e = omega arith
    add false a n m e = omega arith

    add_right : (b : Bool) (a n m : ℕ) → a ≡ (if b then suc n else n) → m + a ≡ (if b then suc (m + n) else m + n)
    add_right true a n m e = omega arith
    add_right false a n m e = omega arith

    here : has_free r ≡ true
        → times_in p (sent q (r ∷ rows)) ≡ (if p == q then suc (times_in p (r ∷ rows)) else times_in p (r ∷ rows))
    here y = ap (times_in p) (if_true (has_free r) (asked_row q r ∷ rows) (r ∷ sent q rows) y)
        ∙ add (p == q) (times_open p (asked q r.process.slots)) (times_open p r.process.slots) (times_in p rows)
        (times_asked p q r.process.slots (ltb-true 0 (free_count r.process.slots) y))

    there : has_free r ≡ false → times_in p (sent q rows) ≡ (if p == q then suc (times_in p rows) else times_in p rows)
        → times_in p (sent q (r ∷ rows)) ≡ (if p == q then suc (times_in p (r ∷ rows)) else times_in p (r ∷ rows))
    there y e = ap (times_in p) (if_false (has_free r) (asked_row q r ∷ rows) (r ∷ sent q rows) y)
        ∙ add_right (p == q) (times_in p (sent q rows)) (times_in p rows) (times_open p r.process.slots) e

pub open_sent : (q : ℕ) (rows : List Living) → some_free rows ≡ true → open_in (sent q rows) ≡ suc (open_in rows)
open_sent q [] f = cc
open_sent q (r ∷ rows) f = ⊎_elim here
    (λ y. there y (open_sent q rows (sym (if_false (has_free r) true (some_free rows) y) ∙ f)))
    (cases_Bool (has_free r))
  where
    here : has_free r ≡ true → open_in (sent q (r ∷ rows)) ≡ suc (open_in (r ∷ rows))
    here y = ap open_in (if_true (has_free r) (asked_row q r ∷ rows) (r ∷ sent q rows) y)
        ∙ (let a = all_slots r.process.slots in let b = all_slots (asked q r.process.slots) in
        let d = length_asked q r.process.slots in
        let e = free_asked q r.process.slots (ltb-true 0 (free_count r.process.slots) y) in omega arith)

    there : has_free r ≡ false → open_in (sent q rows) ≡ suc (open_in rows)
        → open_in (sent q (r ∷ rows)) ≡ suc (open_in (r ∷ rows))
    there y e = ap open_in (if_false (has_free r) (asked_row q r ∷ rows) (r ∷ sent q rows) y) ∙ omega arith

pub class_sent : (n q : ℕ) (rows : List Living) → AreOfClass n rows → AreOfClass n (sent q rows)
class_sent n q [] a = tt
class_sent n q (r ∷ rows) a = by_test (has_free r) (class_sent n q rows a.2)
  where
    by_test : (b : Bool) → AreOfClass n (sent q rows)
        → AreOfClass n (if b then asked_row q r ∷ rows else r ∷ sent q rows)
    by_test true more = (length_asked q r.process.slots ∙ a.0, a.1, a.2)
    by_test false more = (a.0, a.1, more)

pub numbers_sent_law : (q : ℕ) (rows : List Living) → map living_number (sent q rows) ≡ map living_number rows
numbers_sent_law q [] = refl
numbers_sent_law q (r ∷ rows) = by_test (has_free r) (numbers_sent_law q rows)
  where
    by_test : (b : Bool) → map living_number (sent q rows) ≡ map living_number rows
        → map living_number (if b then asked_row q r ∷ rows else r ∷ sent q rows) ≡ r.number ∷ map living_number rows
    by_test true e = refl
    by_test false e = ap (λ z. r.number ∷ z) e

pub length_sent : (q : ℕ) (rows : List Living) → length (sent q rows) ≡ length rows
length_sent q [] = refl
length_sent q (r ∷ rows) = by_test (has_free r) (length_sent q rows)
  where
    by_test : (b : Bool) → length (sent q rows) ≡ length rows
        → length (if b then asked_row q r ∷ rows else r ∷ sent q rows) ≡ suc (length rows)
    by_test true e = refl
    by_test false e = ap suc e

-- the question that is sent was nowhere open
pub waits_alone : (v : Stock) (w : Waiting) (queue : List Waiting) → v.queue ≡ w ∷ queue → IsStock v
    → times_in w.question v.procs ≡ 0
waits_alone v w queue e is =
    let a = is.once w.question in
    let b = ap (times_waiting w.question) e
    ∙ if_true (w.question == w.question) (suc (times_waiting w.question queue)) (times_waiting w.question queue)
    (itself w.question) in
    omega arith
  where
    itself : (q : ℕ) → (q == q) ≡ true
    itself q = grind arith

pub IsStock_send : (v : Stock) (w : Waiting) (queue : List Waiting) → v.queue ≡ w ∷ queue → some_free v.procs ≡ true
    → IsStock v
    → IsStock (record v { queue = queue; procs = sent w.question v.procs })
IsStock_send v w queue e free is = record {
  concurrency_is = is.concurrency_is;
  children_are = is.children_are;
  queue_size_is = is.queue_size_is;
  owed_is = is.owed_is;
  few_procs = rw (length_sent w.question v.procs) is.few_procs;
  rising = rw (numbers_sent_law w.question v.procs) is.rising;
  of_class = class_sent v.concurrency w.question v.procs is.of_class;
  few_questions = let a = is.few_questions in let b = ap length e in let d = open_sent w.question v.procs free in
      omega arith;
  once = λ q. moved (q == w.question) (times_waiting q queue) (times_in q v.procs) (times_lost q v.losses)
      (times_waiting q v.queue) (times_in q (sent w.question v.procs)) (ap (times_waiting q) e)
      (times_sent q w.question v.procs free) (is.once q);
}
  where
    moved : (b : Bool) (t i l t' i' : ℕ) → t' ≡ (if b then suc t else t) → i' ≡ (if b then suc i else i)
        → t' + (i + l) ≤ 1 → t + (i' + l) ≤ 1
    moved true t i l t' i' e f h = omega arith
    moved false t i l t' i' e f h = omega arith

-- the end of process k
pub times_without : (k q : ℕ) (rows : List Living) → Rises (map living_number rows) → lives k rows ≡ true
    → times_in q rows ≡ times_open q (slots_in k rows) + times_in q (without k rows)
times_without k q rows rises alive =
    let f = around k rows rises alive in
    let found : find_proc k rows ≡ Some f.row.process = ap (find_proc k) f.are
    ∙ find_around k f.before f.row f.after f.number f.lower in
    let slots : slots_in k rows ≡ f.row.process.slots = ap slots_by found in
    let left : without k rows ≡ f.before ++ f.after = ap (without k) f.are
    ∙ without_around k f.before f.row f.after f.number f.lower f.higher in
    let a = ap (times_in q) f.are in let b = times_around q f.before f.row f.after in let d = ap (times_in q) left in
    let e = times_join q f.before f.after in
    let g = ap (times_open q) slots in
    omega arith

pub open_join : (xs ys : List Living) → open_in (xs ++ ys) ≡ open_in xs + open_in ys
open_join [] ys = omega arith
open_join (x ∷ xs) ys = let r = open_join xs ys in omega arith

pub open_without : (k : ℕ) (rows : List Living) → Rises (map living_number rows) → lives k rows ≡ true
    → open_in rows ≡ length (opened (slots_in k rows)) + open_in (without k rows)
open_without k rows rises alive =
    let f = around k rows rises alive in
    let found : find_proc k rows ≡ Some f.row.process = ap (find_proc k) f.are
    ∙ find_around k f.before f.row f.after f.number f.lower in
    let slots : slots_in k rows ≡ f.row.process.slots = ap slots_by found in
    let left : without k rows ≡ f.before ++ f.after = ap (without k) f.are
    ∙ without_around k f.before f.row f.after f.number f.lower f.higher in
    let a = ap open_in f.are in let b = open_join f.before (f.row ∷ f.after) in let d = ap open_in left in
    let e = open_join f.before f.after in
    let g = ap (λ z. length (opened z)) slots in
    omega arith

pub length-without : (k : ℕ) (rows : List Living) → length (without k rows) ≤ length rows
length-without k [] = omega arith
length-without k (r ∷ rows) = by_test (k == r.number) (length-without k rows)
  where
    by_test : (b : Bool) → length (without k rows) ≤ length rows
        → length (if b then without k rows else r ∷ without k rows) ≤ suc (length rows)
    by_test true e = omega arith
    by_test false e = omega arith

pub class_without : (n k : ℕ) (rows : List Living) → AreOfClass n rows → AreOfClass n (without k rows)
class_without n k [] a = tt
class_without n k (r ∷ rows) a = by_test (k == r.number) (class_without n k rows a.2)
  where
    by_test : (b : Bool) → AreOfClass n (without k rows)
        → AreOfClass n (if b then without k rows else r ∷ without k rows)
    by_test true more = more
    by_test false more = (a.0, a.1, more)

pub rising_without : (k : ℕ) (rows : List Living) → Rises (map living_number rows) → lives k rows ≡ true
    → Rises (map living_number (without k rows))
rising_without k rows rises alive =
    let f = around k rows rises alive in
    let left : without k rows ≡ f.before ++ f.after = ap (without k) f.are
    ∙ without_around k f.before f.row f.after f.number f.lower f.higher in
    subst (λ z. Rises (map living_number z)) (sym left)
    (rises_without f.before f.row f.after (subst (λ z. Rises (map living_number z)) f.are rises))

-- no question of a process that ends is lost already
pub once_ended : (v : Stock) (k : ℕ) → IsStock v → lives k v.procs ≡ true → (q : ℕ)
    → times_lost q v.losses + times_of q (opened (slots_in k v.procs)) ≤ 1
once_ended v k is alive q =
    let a = is.once q in let b = times_without k q v.procs is.rising alive in
    let d = times_opened_law q (slots_in k v.procs) in omega arith

pub IsStock_ended : (v : Stock) (c : Cause) (k : ℕ) → IsStock v → lives k v.procs ≡ true → IsStock (ended c k v)
IsStock_ended v c k is alive = record {
  concurrency_is = is.concurrency_is;
  children_are = is.children_are;
  queue_size_is = is.queue_size_is;
  owed_is = is.owed_is;
  few_procs = let a = is.few_procs in let b = length-without k v.procs in omega arith;
  rising = rising_without k v.procs is.rising alive;
  of_class = class_without v.concurrency k v.procs is.of_class;
  few_questions = let a = is.few_questions in let b = open_without k v.procs is.rising alive in omega arith;
  once = λ q. let a = is.once q in let b = times_without k q v.procs is.rising alive in
      let d = times_opened_law q (slots_in k v.procs) in
      let e = times_lose_all q c (opened (slots_in k v.procs)) v.losses in omega arith;
}

-- a failed start
pub once_failed : (v : Stock) → IsStock v → (q : ℕ)
    → times_lost q v.losses + times_of q (map waiting_number v.queue) ≤ 1
once_failed v is q = let a = is.once q in let b = times_queue q v.queue in omega arith

pub IsStock_emptied : (v : Stock) (b : Bool) → IsStock v → IsStock (emptied b v)
IsStock_emptied v true is = record {
  concurrency_is = is.concurrency_is;
  children_are = is.children_are;
  queue_size_is = is.queue_size_is;
  owed_is = is.owed_is;
  few_procs = is.few_procs;
  rising = is.rising;
  of_class = is.of_class;
  few_questions = let a = is.few_questions in omega arith;
  once = λ q. let a = is.once q in let b = times_queue q v.queue in
      let e = times_lose_all q cause.NoHelper (map waiting_number v.queue) v.losses in omega arith;
}
IsStock_emptied v false is = is

-- fewer or more starts, within the limit
pub IsStock_starts : (v : Stock) (owed starting : ℕ) (held : Bool) → IsStock v → owed ≤ v.owed
    → length v.procs + starting ≤ v.children_max → IsStock (record v { owed = owed; starting = starting; held = held })
IsStock_starts v owed starting held is less few = record {
  concurrency_is = is.concurrency_is;
  children_are = is.children_are;
  queue_size_is = is.queue_size_is;
  owed_is = let a = is.owed_is in omega arith;
  few_procs = few;
  rising = is.rising;
  of_class = is.of_class;
  few_questions = is.few_questions;
  once = is.once;
}
