-- A farm that has exactly the open lookups' questions, before and after a call.
use Rattle.std.proofs.Common.{◌≡◌, ◌∙◌, ◌==◌, ◌&&◌, ◌||◌, ◌++◌, ◌+◌, ◌≤◌, not, Bool, true, false, ℕ, suc, List, [], ◌∷◌, Option, None, Some, if◌then◌else◌, filter, nat_lt, is_none, is_some, refl, ap, sym, arith, ⊎_elim}
use Rattle.std.proofs.lemmas.Bool.{cases_Bool}
use Rattle.std.proofs.lemmas.Bool.Decides.{nat_tests}
use Rattle.sq_channel.proofs.RisingLaws.{if_false, if_true}
use Rattle.sq_channel.proofs.SlotLaws.{some_open, times_settled}
use Rattle.sq_lookup.specs.Waits.{is_free}
use Rattle.sq_machine.specs.Channels.{is_open, settled, times_open}
use Rattle.sq_machine.specs.Events.{is_number}
use Rattle.sq_machine.specs.Farms.{Stock, places}
use Rattle.sq_machine.specs.Living.{Living, find_proc, settled_in, slots_by, slots_in, times_in}
use Rattle.sq_machine.specs.OpenLookups.{LookupRow, WaitingChecks, all_below, is_open_lookup, question_of, waits_in}
use Rattle.sq_class.specs.Parts.{HoldsOpen}

-- for a number: it is itself
pub itself : (q : ℕ) → (q == q) ≡ true
itself q = grind arith

-- for two numbers that a test found equal
pub equal : (a b : ℕ) → (a == b) ≡ true → a ≡ b
equal a b e = grind (arith, e)

both : (a b : Bool) → (a && b) ≡ true → (a ≡ true) × (b ≡ true)
both true b h = (refl, h)
both false b h = absurd cc

neither : (a b : Bool) → (a || b) ≡ false → (a ≡ false) × (b ≡ false)
neither true b h = absurd cc
neither false b h = (refl, h)

below_apart : (a b : ℕ) → nat_lt b a ≡ true → (a == b) ≡ false
below_apart a b e = grind (arith, nat_tests, e)

-- for the next number: it is above all questions that are open
pub counted_next : (n : ℕ) (rows : List LookupRow) → all_below (suc n) rows ≡ true → all_below (n + 1) rows ≡ true
counted_next n rows h = let e : n + 1 ≡ suc n = omega arith in ap (λ k. all_below k rows) e ∙ h

-- for a question above all that are open: it is not open
pub not_open : (q : ℕ) (rows : List LookupRow) → all_below q rows ≡ true → is_open_lookup q rows ≡ false
not_open q [] h = refl
not_open q (l ∷ rows) h =
    let here = both (nat_lt l.question q) (all_below q rows) h in
    rw (below_apart q l.question here.0) (not_open q rows here.1)

-- for the open questions with one lookup more
pub open_more : (q : ℕ) (l : LookupRow) (rows : List LookupRow)
    → is_open_lookup q (rows ++ l ∷ []) ≡ ((q == l.question) || is_open_lookup q rows)
open_more q l [] = refl
open_more q l (r ∷ rows) = by_tests (q == r.question) (q == l.question) (open_more q l rows)
  where
    by_tests : (a b : Bool) → is_open_lookup q (rows ++ l ∷ []) ≡ (b || is_open_lookup q rows)
        → (a || is_open_lookup q (rows ++ l ∷ [])) ≡ (b || (a || is_open_lookup q rows))
    by_tests true true e = refl
    by_tests true false e = refl
    by_tests false true e = e
    by_tests false false e = e

not_false : (b : Bool) → (not b && false) ≡ false
not_false true = refl
not_false false = refl

same_one : (b o : Bool) → (not b && o) ≡ (not b && (b || o))
same_one true o = refl
same_one false o = refl

other_one : (a b o o' : Bool) → (a ≡ true → b ≡ false) → o' ≡ (not b && o) → (a || o') ≡ (not b && (a || o))
other_one true true o o' f e = let g = f refl in absurd cc
other_one true false o o' f e = refl
other_one false b o o' f e = e

apart_from : (q p r : ℕ) → (p == r) ≡ false → (q == r) ≡ true → (q == p) ≡ false
apart_from q p r away same = grind (arith, nat_tests, away, same)

-- for the open questions without one of them
pub open_less : (q p : ℕ) (rows : List LookupRow)
    → is_open_lookup q (filter (λ (l : LookupRow). not (p == l.question)) rows)
    ≡ (not (q == p) && is_open_lookup q rows)
open_less q p [] = sym (not_false (q == p))
open_less q p (r ∷ rows) = (elim (p == r.question) as
    (λ y. (p == r.question) ≡ y
    → is_open_lookup q (filter (λ (l : LookupRow). not (p == l.question)) (r ∷ rows))
    ≡ (not (q == p) && is_open_lookup q (r ∷ rows))) [
      | true ↦ λ t. let e : r.question ≡ p = sym (equal p r.question t) in
          rw (t, e) (open_less q p rows ∙ same_one (q == p) (is_open_lookup q rows))
      | false ↦ λ t. rw t (other_one (q == r.question) (q == p) (is_open_lookup q rows) _ (apart_from q p r.question t)
          (open_less q p rows))
    ]) refl

-- for a question that is taken out again
pub undone : (q : ℕ) (l : LookupRow) (rows : List LookupRow) → (q == l.question) ≡ true → is_open_lookup q rows ≡ false
    → filter (λ (r : LookupRow). not (q == r.question)) (rows ++ l ∷ []) ≡ rows
undone q l [] same h = rw same refl
undone q l (r ∷ rows) same h =
    let n = neither (q == r.question) (is_open_lookup q rows) h in
    rw n.0 (ap (λ z. r ∷ z) (undone q l rows same n.1))

-- for an answer that is none
pub not_some : (o : Option ℕ) → is_some o ≡ false → o ≡ None
not_some None h = refl
not_some (Some a) h = absurd cc

none_is : (o : Option ℕ) → is_none o ≡ true → o ≡ None
none_is None h = refl
none_is (Some a) h = absurd cc

free_none : (n : ℕ) (check : Option ℕ) (w : WaitingChecks) → is_free check w ≡ true → is_number n check ≡ true
    → question_of n w ≡ None
free_none n None w f h = absurd cc
free_none n (Some k) w f h = rw (equal n k h) (none_is (question_of k w) f)

-- for what a check waits for, after a question was opened for it and taken out again
pub undone_waiting : (n q : ℕ) (check : Option ℕ) (w before after : WaitingChecks) → is_free check w ≡ true
    → waits_in w q n ≡ false
    → question_of n before ≡ (if is_number n check then Some q else question_of n w)
    → question_of n after ≡ (if waits_in before q n then None else question_of n before)
    → question_of n after ≡ question_of n w
undone_waiting n q check w before after f alone e g =
    by_number (is_number n check) (question_of n w) (question_of n before) (question_of n after)
    (λ h. free_none n check w f h) alone e g
  where
    by_number : (b : Bool) (o p r : Option ℕ) → (b ≡ true → o ≡ None) → is_number q o ≡ false
        → p ≡ (if b then Some q else o)
        → r ≡ (if is_number q p then None else p) → r ≡ o
    by_number true o p r none alone e g = g ∙ ap (λ x. if is_number q x then None else x) e
        ∙ if_true (q == q) None (Some q) (itself q) ∙ sym (none refl)
    by_number false o p r none alone e g = g ∙ ap (λ x. if is_number q x then None else x) e
        ∙ if_false (is_number q o) None o alone

-- for a farm with exactly the open lookups: after a question more
pub holds_more : (v v' : Stock) (l : LookupRow) (rows : List LookupRow) → HoldsOpen v rows
    → ((q : ℕ) → places q v' ≡ (if q == l.question then 1 else places q v))
    → (q : ℕ) → places q v' ≡ (if is_open_lookup q (rows ++ l ∷ []) then 1 else 0)
holds_more v v' l rows holds moved q =
    moved q ∙ by_test (q == l.question) (is_open_lookup q rows) (places q v) (holds q)
    ∙ ap (λ b. if b then 1 else 0) (sym (open_more q l rows))
  where
    by_test : (b o : Bool) (n : ℕ) → n ≡ (if o then 1 else 0) → (if b then 1 else n) ≡ (if (b || o) then 1 else 0)
    by_test true o n e = refl
    by_test false o n e = e

-- for a farm with exactly the open lookups: after a question less
pub holds_less : (v v' : Stock) (p : ℕ) (rows : List LookupRow) → HoldsOpen v rows
    → ((q : ℕ) → places q v' ≡ (if q == p then 0 else places q v))
    → (q : ℕ) → places q v' ≡
    (if is_open_lookup q (filter (λ (l : LookupRow). not (p == l.question)) rows) then 1 else 0)
holds_less v v' p rows holds moved q =
    moved q ∙ by_test (q == p) (is_open_lookup q rows) (places q v) (holds q)
    ∙ ap (λ b. if b then 1 else 0) (sym (open_less q p rows))
  where
    by_test : (b o : Bool) (n : ℕ) → n ≡ (if o then 1 else 0) → (if b then 0 else n) ≡ (if (not b && o) then 1 else 0)
    by_test true o n e = refl
    by_test false o n e = e

-- for a farm with exactly the open lookups: a question that it has is open
pub is_there : (v : Stock) (rows : List LookupRow) → HoldsOpen v rows → (q : ℕ) → 1 ≤ places q v
    → is_open_lookup q rows ≡ true
is_there v rows holds q some = by_test (is_open_lookup q rows) (holds q)
  where
    by_test : (o : Bool) → places q v ≡ (if o then 1 else 0) → o ≡ true
    by_test true e = refl
    by_test false e = absurd (omega arith)

-- for a farm with exactly the open lookups: a question stands in one place at most
pub at_most : (v : Stock) (rows : List LookupRow) → HoldsOpen v rows → (q : ℕ) → places q v ≤ 1
at_most v rows holds q = by_test (is_open_lookup q rows) (holds q)
  where
    by_test : (o : Bool) → places q v ≡ (if o then 1 else 0) → places q v ≤ 1
    by_test true e = omega arith
    by_test false e = omega arith

-- for a question that is open on a process: the processes have it
pub open_in_procs : (k p : ℕ) (rows : List Living) → is_open p (slots_in k rows) ≡ true → 1 ≤ times_in p rows
open_in_procs k p [] e = absurd cc
open_in_procs k p (r ∷ rows) e = by_test (k == r.number) e (open_in_procs k p rows)
  where
    by_test : (b : Bool) → is_open p (slots_by (if b then Some r.process else find_proc k rows)) ≡ true
        → (is_open p (slots_in k rows) ≡ true → 1 ≤ times_in p rows)
        → 1 ≤ times_open p r.process.slots + times_in p rows
    by_test true e more = let s = some_open p r.process.slots e in omega arith
    by_test false e more = let s = more e in omega arith

gone : (p : ℕ) (slots : List (Option ℕ)) → times_open p (settled p slots) ≡ 0
gone p slots = times_settled p p slots ∙ if_true (p == p) 0 (times_open p slots) (itself p)

none_settled : (k p : ℕ) (rows : List Living) → times_in p rows ≡ 0 → times_in p (settled_in k p rows) ≡ 0
none_settled k p [] e = refl
none_settled k p (r ∷ rows) e = by_test (k == r.number) e (none_settled k p rows (omega arith))
  where
    by_test : (b : Bool) → times_open p r.process.slots + times_in p rows ≡ 0 → times_in p (settled_in k p rows) ≡ 0
        → times_in p ((if b then record r { process = record r.process { slots = settled p r.process.slots } } else r)
        ∷ settled_in k p rows) ≡ 0
    by_test true e n = let t = gone p r.process.slots in omega arith
    by_test false e n = omega arith

left_settled : (k p : ℕ) (rows : List Living) → is_open p (slots_in k rows) ≡ true → times_in p rows ≤ 1
    → times_in p (settled_in k p rows) ≡ 0
left_settled k p [] e few = absurd cc
left_settled k p (r ∷ rows) e few = by_test (k == r.number) e few (left_settled k p rows)
  where
    by_test : (b : Bool) → is_open p (slots_by (if b then Some r.process else find_proc k rows)) ≡ true
        → times_open p r.process.slots + times_in p rows ≤ 1
        → (is_open p (slots_in k rows) ≡ true → times_in p rows ≤ 1 → times_in p (settled_in k p rows) ≡ 0)
        → times_in p ((if b then record r { process = record r.process { slots = settled p r.process.slots } } else r)
        ∷ settled_in k p rows) ≡ 0
    by_test true e few more =
        let s = some_open p r.process.slots e in let t = gone p r.process.slots in
        let n = none_settled k p rows (omega arith) in omega arith
    by_test false e few more =
        let s = open_in_procs k p rows e in let n = more e (omega arith) in omega arith

-- for a question with a reply: it stands nowhere then
pub replied : (v : Stock) (k p : ℕ) → is_open p (slots_in k v.procs) ≡ true → places p v ≤ 1
    → places p (record v { procs = settled_in k p v.procs }) ≡ 0
replied v k p e few =
    let s = open_in_procs k p v.procs e in let n = left_settled k p v.procs e (omega arith) in omega arith

-- for a question that is open on a process: the farm has it
pub open_place : (v : Stock) (k p : ℕ) → is_open p (slots_in k v.procs) ≡ true → 1 ≤ places p v
open_place v k p e = let s = open_in_procs k p v.procs e in omega arith

-- for a farm with exactly the open lookups: after a reply
pub holds_replied : (v v' : Stock) (k p : ℕ) (rows : List LookupRow) → HoldsOpen v rows
    → is_open p (slots_in k v.procs) ≡ true
    → v' ≡ record v { procs = settled_in k p v.procs } → ((q : ℕ) → (q == p) ≡ false → places q v' ≡ places q v)
    → (q : ℕ) → places q v' ≡
    (if is_open_lookup q (filter (λ (l : LookupRow). not (p == l.question)) rows) then 1 else 0)
holds_replied v v' k p rows holds e is others = holds_less v v' p rows holds (λ q. ⊎_elim
    (λ y. ap (λ x. places x v') (equal q p y) ∙ ap (places p) is ∙ replied v k p e (at_most v rows holds p)
    ∙ sym (if_true (q == p) 0 (places q v) y))
    (λ y. others q y ∙ sym (if_false (q == p) 0 (places q v) y)) (cases_Bool (q == p)))
