-- The lost questions of a class: why each is lost, and what is left once they were handed out.
use Rattle.std.proofs.Common.{◌≡◌, ◌∙◌, ◌==◌, ◌&&◌, ◌||◌, not, cond, Bool, true, false, ℕ, suc, ◌≤◌, List, [], ◌∷◌, map, Option, None, Some, if◌then◌else◌, filter, nat_lt, is_none, refl, ap, sym, arith}
use Rattle.std.specs.List.{list_any}
use Rattle.std.proofs.lemmas.Bool.Decides.{nat_tests}
use Rattle.sq_channel.proofs.RisingLaws.{if_true}
use Rattle.sq_base.specs.declared.helpers.Cause.{Cause}
use Rattle.sq_base.specs.declared.helpers.Cause.TheVariants as cause
use Rattle.sq_machine.specs.Channels.{is_open, opened}
use Rattle.sq_machine.specs.Farms.{Stock, Waiting, emptied, ended, failed, is_last_start, waiting_number}
use Rattle.sq_machine.specs.Living.{slots_in}
use Rattle.sq_machine.specs.Losses.{Loss, first_lost, later_lost, lose, lose_all, times_lost}
use Rattle.sq_machine.specs.OpenLookups.{LookupRow}
use Rattle.sq_model.specs.ClassRows.{ClassRow, after_death, after_failed, handed, is_waiting}
use Rattle.sq_class.specs.Losing.{handed_out, lost_cause}
use Rattle.sq_class.proofs.HoldLaws.{itself}

-- for two tests that agree: they leave the same
pub filter_same : {X : Type 0} (p r : X → Bool) (xs : List X) → ((x : X) → p x ≡ r x) → filter p xs ≡ filter r xs
filter_same p r [] e = refl
filter_same p r (x ∷ xs) e = ap (λ b. cond b (x ∷ filter p xs) (filter p xs)) (e x)
    ∙ ap (λ z. cond (r x) (x ∷ z) z) (filter_same p r xs e)

filter_all : {X : Type 0} (p : X → Bool) (xs : List X) → ((x : X) → p x ≡ true) → filter p xs ≡ xs
filter_all p [] e = refl
filter_all p (x ∷ xs) e = ap (λ b. cond b (x ∷ filter p xs) (filter p xs)) (e x) ∙ ap (λ z. x ∷ z) (filter_all p xs e)

turned : (a b : ℕ) → (a == b) ≡ (b == a)
turned a b = grind (arith, nat_tests)

below_apart : (q a b : ℕ) → nat_lt a b ≡ true → (q == a) ≡ true → (q == b) ≡ false
below_apart q a b less same = grind (arith, nat_tests, less, same)

-- for why a question is lost, after one more was lost
pub cause_lose : (q p : ℕ) (c : Cause) (ls : List Loss)
    → lost_cause q (lose p c ls) ≡ (if q == p then Some c else lost_cause q ls)
cause_lose q p c [] = refl
cause_lose q p c (l ∷ ls) = front (nat_lt l.question p) ∙ by_test (nat_lt l.question p) refl (cause_lose q p c ls)
  where
    front : (b : Bool) → lost_cause q (if b then l ∷ lose p c ls else record { question = p; cause = c } ∷ l ∷ ls)
        ≡ (if b then (if q == l.question then Some l.cause else lost_cause q (lose p c ls))
        else (if q == p then Some c else lost_cause q (l ∷ ls)))
    front true = refl
    front false = refl

    past : (d e : Bool) (o o' : Option Cause) → (d ≡ true → e ≡ false) → o' ≡ (if e then Some c else o)
        → (if d then Some l.cause else o') ≡ (if e then Some c else (if d then Some l.cause else o))
    past true true o o' f h = let g = f refl in absurd cc
    past true false o o' f h = refl
    past false e o o' f h = h

    by_test : (b : Bool) → nat_lt l.question p ≡ b
        → lost_cause q (lose p c ls) ≡ (if q == p then Some c else lost_cause q ls)
        → (if b then (if q == l.question then Some l.cause else lost_cause q (lose p c ls))
        else (if q == p then Some c else lost_cause q (l ∷ ls)))
        ≡ (if q == p then Some c else lost_cause q (l ∷ ls))
    by_test true t h = past (q == l.question) (q == p) (lost_cause q ls) (lost_cause q (lose p c ls))
        (λ s. below_apart q l.question p t s) h
    by_test false t h = refl

-- for why a question is lost, after these were lost
pub cause_all : (q : ℕ) (c : Cause) (qs : List ℕ) (ls : List Loss)
    → lost_cause q (lose_all c qs ls) ≡ (if list_any (λ p. q == p) qs then Some c else lost_cause q ls)
cause_all q c [] ls = refl
cause_all q c (p ∷ qs) ls = cause_all q c qs (lose p c ls)
    ∙ ap (λ o. if list_any (λ n. q == n) qs then Some c else o) (cause_lose q p c ls)
    ∙ joined (list_any (λ n. q == n) qs) (q == p)
  where
    joined : (a b : Bool)
        → (if a then Some c else (if b then Some c else lost_cause q ls))
        ≡ (if (b || a) then Some c else lost_cause q ls)
    joined true true = refl
    joined true false = refl
    joined false true = refl
    joined false false = refl

opened_any : (q : ℕ) (slots : List (Option ℕ)) → list_any (λ p. q == p) (opened slots) ≡ is_open q slots
opened_any q [] = refl
opened_any q (None ∷ slots) = opened_any q slots
opened_any q (Some p ∷ slots) = by_test (q == p) (opened_any q slots)
  where
    by_test : (b : Bool) → list_any (λ n. q == n) (opened slots) ≡ is_open q slots
        → (b || list_any (λ n. q == n) (opened slots)) ≡ (if b then true else is_open q slots)
    by_test true e = refl
    by_test false e = e

waiting_any : (q : ℕ) (queue : List Waiting) → list_any (λ p. q == p) (map waiting_number queue) ≡ is_waiting q queue
waiting_any q [] = refl
waiting_any q (w ∷ queue) = ap (λ b. (q == w.question) || b) (waiting_any q queue)

-- for why a question is lost, after a process ended
pub cause_ended : (q : ℕ) (c : Cause) (k : ℕ) (v : Stock) → v.losses ≡ []
    → lost_cause q (ended c k v).losses ≡ (if is_open q (slots_in k v.procs) then Some c else None)
cause_ended q c k v none =
    cause_all q c (opened (slots_in k v.procs)) v.losses
    ∙ ap (λ b. if b then Some c else lost_cause q v.losses) (opened_any q (slots_in k v.procs))
    ∙ ap (λ ls. if is_open q (slots_in k v.procs) then Some c else lost_cause q ls) none

cause_emptied : (q : ℕ) (b : Bool) (v : Stock) → v.losses ≡ []
    → lost_cause q (emptied b v).losses ≡ (if b && is_waiting q v.queue then Some cause.NoHelper else None)
cause_emptied q true v none =
    cause_all q cause.NoHelper (map waiting_number v.queue) v.losses
    ∙ ap (λ b. if b then Some cause.NoHelper else lost_cause q v.losses) (waiting_any q v.queue)
    ∙ ap (λ ls. if is_waiting q v.queue then Some cause.NoHelper else lost_cause q ls) none
cause_emptied q false v none = ap (lost_cause q) none

-- for why a question is lost, after a start failed
pub cause_failed : (q : ℕ) (v : Stock) → v.losses ≡ []
    → lost_cause q (failed v).losses ≡ (if is_last_start v && is_waiting q v.queue then Some cause.NoHelper else None)
cause_failed q v none = cause_emptied q (is_last_start v) v none

none_not : {A : Type 0} (b : Bool) (o : Option A) (a : A) → o ≡ (if b then Some a else None) → is_none o ≡ not b
none_not true o a e = ap is_none e
none_not false o a e = ap is_none e

-- for a class after a process ended: what is left once its lost questions were handed out
pub handed_death : (c : Cause) (k : ℕ) (r : ClassRow) → r.stock.losses ≡ []
    → handed_out (record r { stock = ended c k r.stock }) ≡ after_death c k r
handed_death c k r none = ap (λ rows. record { kept = r.kept; lookups = rows; stock = handed (ended c k r.stock) })
    (filter_same (λ (l : LookupRow). is_none (lost_cause l.question (ended c k r.stock).losses))
    (λ l. not (is_open l.question (slots_in k r.stock.procs))) r.lookups
    (λ l. none_not (is_open l.question (slots_in k r.stock.procs)) (lost_cause l.question (ended c k r.stock).losses) c
    (cause_ended l.question c k r.stock none)))

-- for a class after a start failed: what is left once its lost questions were handed out
pub handed_failed : (r : ClassRow) → r.stock.losses ≡ []
    → handed_out (record r { stock = failed r.stock }) ≡ after_failed r
handed_failed r none = ap (λ rows. record { kept = r.kept; lookups = rows; stock = handed (failed r.stock) })
    (filter_same (λ (l : LookupRow). is_none (lost_cause l.question (failed r.stock).losses))
    (λ l. not (is_last_start r.stock && is_waiting l.question r.stock.queue)) r.lookups
    (λ l. none_not (is_last_start r.stock && is_waiting l.question r.stock.queue)
    (lost_cause l.question (failed r.stock).losses) cause.NoHelper (cause_failed l.question r.stock none)))

next_filter : (l : Loss) (ls : List Loss) (rows : List LookupRow)
    → filter (λ (x : LookupRow). is_none (lost_cause x.question ls))
    (filter (λ (x : LookupRow). not (l.question == x.question)) rows)
    ≡ filter (λ (x : LookupRow). is_none (lost_cause x.question (l ∷ ls))) rows
next_filter l ls [] = refl
next_filter l ls (x ∷ rows) = (elim (l.question == x.question) as (λ y. (l.question == x.question) ≡ y
    → filter (λ (z : LookupRow). is_none (lost_cause z.question ls))
    (filter (λ (z : LookupRow). not (l.question == z.question)) (x ∷ rows))
    ≡ filter (λ (z : LookupRow). is_none (lost_cause z.question (l ∷ ls))) (x ∷ rows)) [
      | true ↦ λ t. rw (turned x.question l.question, t) (next_filter l ls rows)
      | false ↦ λ t. rw (turned x.question l.question, t)
          (ap (λ z. cond (is_none (lost_cause x.question ls)) (x ∷ z) z) (next_filter l ls rows))
    ]) refl

-- for a class whose first lost question was handed out: what is left in the end is the same
pub handed_next : (r : ClassRow) (l : Loss) (ls : List Loss) → r.stock.losses ≡ l ∷ ls
    → handed_out (record r {
      lookups = filter (λ (x : LookupRow). not (l.question == x.question)) r.lookups;
      stock = record r.stock { losses = ls };
    }) ≡ handed_out r
handed_next r l ls are = ap (λ rows. record { kept = r.kept; lookups = rows; stock = handed r.stock })
    (next_filter l ls r.lookups
    ∙ ap (λ z. filter (λ (x : LookupRow). is_none (lost_cause x.question z)) r.lookups) (sym are))

-- for a class without lost questions: nothing is handed out
pub handed_none : (r : ClassRow) → r.stock.losses ≡ [] → handed_out r ≡ r
handed_none r none =
    ap (λ rows. record { kept = r.kept; lookups = rows; stock = handed r.stock })
    (filter_all (λ (x : LookupRow). is_none (lost_cause x.question r.stock.losses)) r.lookups
    (λ x. ap (λ z. is_none (lost_cause x.question z)) none))
    ∙ ap (λ z. record r { stock = record r.stock { losses = z } }) (sym none)

-- for the first of some lost questions
pub first_is : (q : ℕ) (c : Cause) (ls : List Loss) → first_lost ls ≡ Some (q, c)
    → ls ≡ record { question = q; cause = c } ∷ later_lost ls
first_is q c [] e = absurd cc
first_is q c (l ∷ ls) e = let p : (l.question, l.cause) ≡ (q, c) = cc in
    ap (λ (x : ℕ × Cause). record { question = x.0; cause = x.1 } ∷ ls) p

-- for lost questions without a first: there are none
pub first_none : (ls : List Loss) → first_lost ls ≡ None → ls ≡ []
first_none [] e = refl
first_none (l ∷ ls) e = absurd cc

-- for the first of some lost questions: it is lost
pub first_times : (q : ℕ) (c : Cause) (ls : List Loss) → first_lost ls ≡ Some (q, c) → 1 ≤ times_lost q ls
first_times q c ls e =
    let t = ap (times_lost q) (first_is q c ls e)
    ∙ if_true (q == q) (suc (times_lost q (later_lost ls))) (times_lost q (later_lost ls)) (itself q) in omega arith
