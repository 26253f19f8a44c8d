-- Laws of what is due in a farm, and of questions that are put.
use Rattle.std.proofs.Common.{◌≡◌, ℕ, suc, ◌+◌, ◌-◌, ◌*◌, ◌≤◌, ◌<◌, max, List, [], ◌∷◌, ◌++◌, length, Bool, true, false, not, ◌&&◌, ◌||◌, if◌then◌else◌, nat_lt, nat_le, ◌==◌, refl, sym, arith, ap, ◌∙◌, ⊎_elim, Some, None, is_some, mul-add}
use Rattle.std.specs.declared.option.Option.{Option}
use Rattle.std.proofs.lemmas.Bool.{cases_Bool, le-ltb, lt-ltb, ltb-true}
use Rattle.sq_base.specs.declared.helpers.Cause.{Cause}
use Rattle.std.proofs.lemmas.Bool.Decides.{nat_tests}
use Rattle.sq_machine.specs.Channels.{channel_name, first_open, least_free, opened}
use Rattle.sq_channel.proofs.SlotLaws.{all_slots}
use Rattle.sq_machine.specs.Farms.{Waiting, Sending, AreOfClass, after_act, after_send, after_send_by, after_start, send_by, send_of, start_due, IsStock, Stock, free_in, full, open_in, places, put_in, times_waiting}
use Rattle.sq_machine.specs.Losses.{Loss, lose, times_lost}
use Rattle.sq_machine.specs.Living.{Living, has_free, some_free, target, times_in}
use Rattle.sq_farm.specs.Acts.{act_by, act_of, told_send, told_start}
use Rattle.sq_farm.specs.declared.acts.FarmAct.{FarmAct}
use Rattle.sq_machine.specs.Rising.{times_of}
use Rattle.sq_farm.proofs.LostLaws.{times_lose}
use Rattle.sq_channel.proofs.RisingLaws.{if_false, if_true}

-- a question more
pub times_push : (q : ℕ) (w : Waiting) (queue : List Waiting)
    → times_waiting q (queue ++ w ∷ [])
    ≡ (if q == w.question then suc (times_waiting q queue) else times_waiting q queue)
times_push q w [] = refl
times_push q w (x ∷ queue) = by_test (q == x.question) (q == w.question) (times_push q w queue)
  where
    by_test : (b d : Bool)
        → times_waiting q (queue ++ w ∷ []) ≡ (if d then suc (times_waiting q queue) else times_waiting q queue)
        → (if b then suc (times_waiting q (queue ++ w ∷ [])) else times_waiting q (queue ++ w ∷ []))
        ≡ (if d then suc (if b then suc (times_waiting q queue) else times_waiting q queue)
        else (if b then suc (times_waiting q queue) else times_waiting q queue))
    by_test true true e = ap suc e
    by_test true false e = ap suc e
    by_test false true e = e
    by_test false false e = e

pub length-push : (w : Waiting) (queue : List Waiting) → length (queue ++ w ∷ []) ≡ suc (length queue)
length-push w [] = refl
length-push w (x ∷ queue) = ap suc (length-push w queue)

-- slots of living processes are free or have a question
pub all_in : (n : ℕ) (rows : List Living) → AreOfClass n rows → free_in rows + open_in rows ≡ max 1 n * length rows
all_in n [] a = omega arith
all_in n (r ∷ rows) a = let e = all_in n rows a.2 in let b = all_slots r.process.slots in let d = a.0 in omega arith

pub full_is : (v : Stock) → IsStock v
    → nat_le (v.queue_size + max 1 v.concurrency * v.children_max) (length v.queue + open_in v.procs) ≡ full v
unfolding full
full_is v is = same v.queue_size (max 1 v.concurrency) v.children_max (length v.procs) (length v.queue)
    (open_in v.procs) (free_in v.procs) (all_in v.concurrency v.procs is.of_class) (omega (arith, is.few_procs))
  where
    numbers : (z a b d t o f : ℕ) → f + o ≡ d → b + d ≡ a → nat_le (z + a) (t + o) ≡ nat_le (z + f + b) t
    numbers z a b d t o f e p = grind (arith, nat_tests, e, p)

    same : (z s m l t o f : ℕ) → f + o ≡ s * l → l ≤ m → nat_le (z + s * m) (t + o) ≡ nat_le (z + f + s * (m - l)) t
    same z s m l t o f e le = numbers z (s * m) (s * (m - l)) (s * l) t o f e
        (sym (mul-add s (m - l) l) ∙ ap (λ n. s * n) (omega arith))

pub target_none : (rows : List Living) → some_free rows ≡ false → target rows ≡ None
target_none [] e = refl
target_none (r ∷ rows) e = ⊎_elim (λ y. absurd cc)
    (λ y. if_false (has_free r) (Some (r.number, channel_name r.process.numbered (least_free r.process.slots)))
    (target rows) y ∙ target_none rows (sym (if_false (has_free r) true (some_free rows) y) ∙ e))
    (cases_Bool (has_free r))

pub send_none : (queue : List Waiting) (rows : List Living) → some_free rows ≡ false
    → send_by queue (target rows) ≡ None
send_none [] rows e = refl
send_none (w ∷ queue) rows e = ap (send_by (w ∷ queue)) (target_none rows e)

pub after_none : (v : Stock) (queue : List Waiting) → after_send_by v queue false ≡ v
after_none v [] = refl
after_none v (w ∷ queue) = refl

pub IsStock_put : (v : Stock) (w : Waiting) → IsStock v → full v ≡ false → places w.question v ≡ 0
    → IsStock (put_in w v)
IsStock_put v w is free none = record {
  concurrency_is = is.concurrency_is;
  children_are = is.children_are;
  queue_size_is = is.queue_size_is;
  owed_is = is.owed_is;
  few_procs = is.few_procs;
  rising = is.rising;
  of_class = is.of_class;
  few_questions = let a = below (v.queue_size + max 1 v.concurrency * v.children_max) (length v.queue + open_in v.procs)
      (full_is v is ∙ free) in let b = length-push w v.queue in omega arith;
  once = λ q. added q (is.once q) (times_push q w v.queue);
}
  where
    below : (a b : ℕ) → nat_le a b ≡ false → b < a
    below a b e = grind (arith, nat_tests, e)

    added : (q : ℕ) → places q v ≤ 1
        → times_waiting q (v.queue ++ w ∷ [])
        ≡ (if q == w.question then suc (times_waiting q v.queue) else times_waiting q v.queue)
        → times_waiting q (v.queue ++ w ∷ []) + (times_in q v.procs + times_lost q v.losses) ≤ 1
    added q few e = ⊎_elim (λ y. let s =
        if_true (q == w.question) (suc (times_waiting q v.queue)) (times_waiting q v.queue) y in
        let p = equal_places q y in omega arith)
        (λ y. let s = if_false (q == w.question) (suc (times_waiting q v.queue)) (times_waiting q v.queue) y in
        omega arith) (cases_Bool (q == w.question))
      where
        equal : (a b : ℕ) → (a == b) ≡ true → a ≡ b
        equal a b e = grind (arith, e)

        equal_places : (q : ℕ) → (q == w.question) ≡ true → places q v ≡ 0
        equal_places q y = ap (λ n. places n v) (equal q w.question y) ∙ none

-- starts
pub left_true : (a b : Bool) → (a && b) ≡ true → a ≡ true
left_true true b e = refl
left_true false b e = e

pub start_room : (v : Stock) → start_due v ≡ true → length v.procs + v.starting < v.children_max
unfolding start_due
start_room v e = ltb-true (length v.procs + v.starting) v.children_max
    (left_true (nat_lt (length v.procs + v.starting) v.children_max) _ e)

pub start_many : (v : Stock) → v.children_max ≤ length v.procs + v.starting → start_due v ≡ false
unfolding start_due
start_many v le = ap (λ b. b
    && (not v.held && (nat_lt 0 v.owed || nat_lt (v.starting * max 1 v.concurrency) (length v.queue))))
    (le-ltb (length v.procs + v.starting) v.children_max le)

pub start_held : (v : Stock) → v.held ≡ true → start_due v ≡ false
unfolding start_due
start_held v e = ap (λ b. nat_lt (length v.procs + v.starting) v.children_max
    && (not b && (nat_lt 0 v.owed || nat_lt (v.starting * max 1 v.concurrency) (length v.queue)))) e
    ∙ no_more (nat_lt (length v.procs + v.starting) v.children_max)
  where
    no_more : (b : Bool) → (b && false) ≡ false
    no_more true = refl
    no_more false = refl

pub start_owed : (v : Stock) → length v.procs + v.starting < v.children_max → v.held ≡ false
    → start_due v ≡ (nat_lt 0 v.owed || nat_lt (v.starting * max 1 v.concurrency) (length v.queue))
unfolding start_due
start_owed v l e =
    ap (λ b. b && (not v.held && (nat_lt 0 v.owed || nat_lt (v.starting * max 1 v.concurrency) (length v.queue))))
    (lt-ltb (length v.procs + v.starting) v.children_max l)
    ∙ ap (λ b. not b && (nat_lt 0 v.owed || nat_lt (v.starting * max 1 v.concurrency) (length v.queue))) e

-- sends
pub target_some : (rows : List Living) → some_free rows ≡ true → is_some (target rows) ≡ true
target_some [] e = e
target_some (r ∷ rows) e = by_test (has_free r) e (target_some rows)
  where
    by_test : (b : Bool) → (if b then true else some_free rows) ≡ true
        → (some_free rows ≡ true → is_some (target rows) ≡ true)
        → is_some (if b then Some (r.number, channel_name r.process.numbered (least_free r.process.slots))
        else target rows) ≡ true
    by_test true e more = refl
    by_test false e more = more e

pub send_some : (queue : List Waiting) (rows : List Living) → 0 < length queue
    → is_some (send_by queue (target rows)) ≡ some_free rows
send_some [] rows l = absurd (omega arith)
send_some (w ∷ queue) rows l = by_case (target rows)
    ∙ ⊎_elim (λ y. target_some rows y ∙ sym y) (λ y. ap is_some (target_none rows y) ∙ sym y)
    (cases_Bool (some_free rows))
  where
    by_case : (o : Option (ℕ × Option ℕ)) → is_some (send_by (w ∷ queue) o) ≡ is_some o
    by_case None = refl
    by_case (Some t) = refl

pub after_send_none : (v : Stock) → send_of v ≡ None → after_send v ≡ v
after_send_none v e = by_queue v.queue e
  where
    by_queue : (queue : List Waiting) → send_by queue (target v.procs) ≡ None
        → after_send_by v queue (some_free v.procs) ≡ v
    by_queue [] e = refl
    by_queue (w ∷ queue) e = ⊎_elim (λ y. absurd (no_send (target v.procs) (target_some v.procs y) e))
        (λ y. ap (after_send_by v (w ∷ queue)) y) (cases_Bool (some_free v.procs))
      where
        no_send : (o : Option (ℕ × Option ℕ)) → is_some o ≡ true → send_by (w ∷ queue) o ≡ None → ⊥
        no_send None s e = absurd cc
        no_send (Some t) s e = absurd cc

-- the next act, by whether a send is due
pub none_told : (o : Option Sending) → told_send o ≡ None → o ≡ None
none_told None e = refl
none_told (Some s) e = cc

pub act_some : (v : Stock) (a : FarmAct) → told_send (send_of v) ≡ Some a → act_of v ≡ Some a
act_some v a e = by_case (send_of v) e
  where
    by_case : (o : Option Sending) → told_send o ≡ Some a → act_by o (start_due v) ≡ Some a
    by_case None e = cc
    by_case (Some s) e = e

pub some_told : (o : Option Sending) (a : FarmAct) → told_send o ≡ Some a → is_some o ≡ true
some_told None a e = cc
some_told (Some s) a e = refl

pub act_none : (v : Stock) → send_of v ≡ None → act_of v ≡ told_start (start_due v)
act_none v e = ap (λ o. act_by o (start_due v)) e

pub after_act_none : (v : Stock) → send_of v ≡ None → after_act v ≡ after_start v
after_act_none v e = if_false (is_some (send_of v)) (after_send v) (after_start v) (ap is_some e)

pub max_swap : (n : ℕ) → max n 1 ≡ max 1 n
max_swap n = grind arith

pub none_opened : (slots : List (Option ℕ)) → first_open slots ≡ None → opened slots ≡ []
none_opened [] e = refl
none_opened (None ∷ slots) e = none_opened slots e
none_opened (Some q ∷ slots) e = absurd cc

-- one question more is lost, of those that are to be
pub once_lose : (c : Cause) (k : ℕ) (qs : List ℕ) (ls : List Loss)
    → ((q : ℕ) → times_lost q ls + times_of q (k ∷ qs) ≤ 1) → (q : ℕ) → times_lost q (lose k c ls) + times_of q qs ≤ 1
once_lose c k qs ls once q = by_test (q == k) (times_lose q k c ls) (once q)
  where
    by_test : (b : Bool) → times_lost q (lose k c ls) ≡ (if b then suc (times_lost q ls) else times_lost q ls)
        → times_lost q ls + (if b then suc (times_of q qs) else times_of q qs) ≤ 1
        → times_lost q (lose k c ls) + times_of q qs ≤ 1
    by_test true e o = omega arith
    by_test false e o = omega arith

pub not_lost : (k : ℕ) (qs : List ℕ) (n : ℕ) → n + times_of k (k ∷ qs) ≤ 1 → n ≡ 0
not_lost k qs n o = let s = if_true (k == k) (suc (times_of k qs)) (times_of k qs) (itself k) in omega arith
  where
    itself : (q : ℕ) → (q == q) ≡ true
    itself q = grind arith
