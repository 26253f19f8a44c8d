-- Where each question stands before and after a call.
use Rattle.std.proofs.Common.{◌≡◌, ℕ, suc, ◌+◌, ◌-◌, ◌≤◌, ◌<◌, List, [], ◌∷◌, ◌++◌, map, length, Bool, true, false, if◌then◌else◌, ◌==◌, refl, sym, arith, ap, ◌∙◌, ⊎_elim, Some, None, is_some, drop, get_or, IfSome}
use Rattle.std.specs.Option.{option_to_list}
use Rattle.std.proofs.lemmas.List.{drop_more}
use Rattle.std.specs.declared.option.Option.{Option}
use Rattle.std.proofs.lemmas.Bool.{cases_Bool}
use Rattle.sq_base.specs.declared.helpers.Cause.{Cause}
use Rattle.sq_base.specs.declared.helpers.Cause.TheVariants as cause
use Rattle.sq_machine.specs.Channels.{opened}
use Rattle.sq_machine.specs.Farms.{Waiting, after_act, after_send, after_send_by, after_start, emptied, send_of, start_due, Stock, ended, places, put_in, times_waiting, waiting_number}
use Rattle.sq_machine.specs.Losses.{Loss, lose_all, times_lost}
use Rattle.sq_machine.specs.Living.{lives, living_number, sent, slots_in, some_free, times_in}
use Rattle.sq_machine.specs.Rising.{Rises, times_of}
use Rattle.sq_channel.proofs.RisingLaws.{if_false, if_true}
use Rattle.sq_farm.proofs.FarmLaws.{times_lose_all, times_opened_law, times_queue, times_sent, times_without}
use Rattle.sq_farm.proofs.DueLaws.{not_lost, once_lose, times_push}

-- for where a question stands after one was put
pub places_put : (v : Stock) (w : Waiting) → places w.question v ≡ 0 → (q : ℕ)
    → places q (put_in w v) ≡ (if q == w.question then 1 else places q v)
places_put v w none q = ⊎_elim
    (λ y. (let s = times_push q w v.queue
    ∙ if_true (q == w.question) (suc (times_waiting q v.queue)) (times_waiting q v.queue) y in
    let p = ap (λ n. places n v) (same q w.question y) ∙ none in
    one q s p) ∙ sym (if_true (q == w.question) 1 (places q v) y))
    (λ y. ap (λ n. n + (times_in q v.procs + times_lost q v.losses))
    (times_push q w v.queue ∙ if_false (q == w.question) (suc (times_waiting q v.queue)) (times_waiting q v.queue) y)
    ∙ sym (if_false (q == w.question) 1 (places q v) y)) (cases_Bool (q == w.question))
  where
    same : (a b : ℕ) → (a == b) ≡ true → a ≡ b
    same a b e = grind (arith, e)

    one : (q : ℕ) → times_waiting q (v.queue ++ w ∷ []) ≡ suc (times_waiting q v.queue) → places q v ≡ 0
        → places q (put_in w v) ≡ 1
    one q s p = omega arith

-- for where a question stands after a send
pub places_send : (v : Stock) (q : ℕ) → places q (after_send v) ≡ places q v
places_send v q = by_queue v.queue refl
  where
    moved : (b : Bool) (t i l t' i' : ℕ) → t' ≡ (if b then suc t else t) → i' ≡ (if b then suc i else i)
        → t + (i' + l) ≡ t' + (i + l)
    moved true t i l t' i' e f = omega arith
    moved false t i l t' i' e f = omega arith

    by_free : (w : Waiting) (queue : List Waiting) (b : Bool) → v.queue ≡ w ∷ queue → some_free v.procs ≡ b
        → places q (after_send_by v (w ∷ queue) b) ≡ places q v
    by_free w queue true e f = moved (q == w.question) (times_waiting q queue) (times_in q v.procs)
        (times_lost q v.losses) (times_waiting q v.queue) (times_in q (sent w.question v.procs))
        (ap (times_waiting q) e) (times_sent q w.question v.procs f)
    by_free w queue false e f = refl

    by_queue : (queue : List Waiting) → v.queue ≡ queue
        → places q (after_send_by v queue (some_free v.procs)) ≡ places q v
    by_queue [] e = refl
    by_queue (w ∷ queue) e = by_free w queue (some_free v.procs) e refl

-- for where a question stands after the next act
pub places_act : (v : Stock) (q : ℕ) → places q (after_act v) ≡ places q v
places_act v q = by_test (is_some (send_of v)) (start_due v)
  where
    by_test : (b d : Bool)
        → places q (if b then after_send v
        else (if d then record v { owed = v.owed - 1; starting = suc v.starting } else v)) ≡ places q v
    by_test true d = places_send v q
    by_test false true = refl
    by_test false false = refl

-- for where a question stands after a process ended
pub places_ended : (v : Stock) (c : Cause) (k : ℕ) → Rises (map living_number v.procs) → lives k v.procs ≡ true
    → (q : ℕ) → places q (ended c k v) ≡ places q v
places_ended v c k rises alive q =
    let b = times_without k q v.procs rises alive in let d = times_opened_law q (slots_in k v.procs) in
    let e = times_lose_all q c (opened (slots_in k v.procs)) v.losses in omega arith

-- for where a question stands after a start
pub places_start : (v : Stock) (q : ℕ) → places q (after_start v) ≡ places q v
places_start v q = by_test (start_due v)
  where
    by_test : (d : Bool) → places q (if d then record v { owed = v.owed - 1; starting = suc v.starting } else v)
        ≡ places q v
    by_test true = refl
    by_test false = refl

-- for where a question stands after the queue was lost, or not
pub places_emptied : (v : Stock) (b : Bool) (q : ℕ) → places q (emptied b v) ≡ places q v
places_emptied v true q = let b = times_queue q v.queue in
    let e = times_lose_all q cause.NoHelper (map waiting_number v.queue) v.losses in omega arith
places_emptied v false q = refl

-- for the questions of a list of channels, of which one more is looked at
pub opened_step : (slots : List (Option ℕ)) (i : ℕ) (s : Option ℕ) → i < length slots → s ≡ get_or slots i s
    → opened (drop i slots) ≡ option_to_list s ++ opened (drop (i + 1) slots)
opened_step slots i s l e = ap opened (drop_more slots i s l) ∙ ap (λ x. opened (x ∷ drop (i + 1) slots)) (sym e)
    ∙ front s (drop (i + 1) slots)
  where
    front : (s : Option ℕ) (rest : List (Option ℕ)) → opened (s ∷ rest) ≡ option_to_list s ++ opened rest
    front None rest = refl
    front (Some q) rest = refl

-- for the losses of a list whose first channel was looked at
pub lose_slot_law : (c : Cause) (s : Option ℕ) (qs : List ℕ) (ls : List Loss)
    → lose_all c qs (lose_all c (option_to_list s) ls) ≡ lose_all c (option_to_list s ++ qs) ls
lose_slot_law c None qs ls = refl
lose_slot_law c (Some q) qs ls = refl

-- for losses that are there once, after one channel more was looked at
pub once_slot : (c : Cause) (s : Option ℕ) (qs : List ℕ) (ls : List Loss)
    → ((q : ℕ) → times_lost q ls + times_of q (option_to_list s ++ qs) ≤ 1) → (q : ℕ)
    → times_lost q (lose_all c (option_to_list s) ls) + times_of q qs ≤ 1
once_slot c None qs ls once = once
once_slot c (Some k) qs ls once = once_lose c k qs ls once

-- for the question of a channel that is to be lost: it is not lost yet
pub slot_not_lost : (s : Option ℕ) (qs : List ℕ) (ls : List Loss)
    → ((q : ℕ) → times_lost q ls + times_of q (option_to_list s ++ qs) ≤ 1) → IfSome s (λ q. times_lost q ls ≡ 0)
slot_not_lost None qs ls once = tt
slot_not_lost (Some k) qs ls once = not_lost k qs (times_lost k ls) (once k)
