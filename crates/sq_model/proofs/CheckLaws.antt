-- The open checks as rows, after each event.
use Rattle.std.proofs.Common.{◌≡◌, ℕ, suc, ◌≤◌, min, List, [], ◌∷◌, ◌++◌, append-nil, Bool, true, false, not, ◌&&◌, ◌||◌, ◌==◌, nat_le, if◌then◌else◌, Option, Some, None, is_some, option_and_then, option_to_list, refl, ap, ap₂, ◌∙◌, arith, inl}
use Rattle.std.specs.Option.{option_map, unwrap_or}
use Rattle.std.proofs.lemmas.Bool.{and_left, and_right, le-leb}
use Rattle.std.proofs.lemmas.Bool.Decides.{nat_tests}
use Rattle.sq_base.proofs.CommonLaws.{eq_turned}
use Rattle.sq_base.specs.declared.helpers.Answer.{Answer}
use Rattle.sq_base.specs.declared.helpers.What.{What}
use Rattle.sq_base.specs.declared.requests.Field.{Field}
use Rattle.sq_machine.specs.declared.entries.Event.{Event}
use Rattle.sq_machine.specs.declared.entries.Event.TheVariants.{Step, Take, Close, Ask}
use Rattle.sq_machine.specs.declared.entries.Told.{Told}
use Rattle.sq_machine.specs.declared.entries.Told.TheVariants as told
use Rattle.sq_machine.specs.AnswerReadings.{answer_at, answer_by, answers, ended_answer, last_wait, steps, waits_for, waits_told}
use Rattle.sq_machine.specs.Checks.{Asked, ask_count, ask_of, asked_by, check_open, closes, conn_of, is_done, more_if, numbered}
use Rattle.sq_rules.specs.Configurations.{Configuration}
use Rattle.sq_machine.specs.Events.{Asking, asking, done_check, is_number, told_done}
use Rattle.sq_machine.specs.Limits.{last_number}
use Rattle.sq_machine.specs.Marks.{Marked, Past, Put, entries}
use Rattle.sq_machine.specs.Numbered.{rows}
use Rattle.sq_machine.specs.Questions.{QuestionEnd, end_at, first_end, put_of, question_end, unended}
use Rattle.sq_machine.specs.StepRule.{StepSays}
use Rattle.sq_machine.proofs.CheckLaws.{IsAsked, ask_count_more, ask_of_begun, ask_of_kept, check_open_begun, check_open_kept, check_open_unborn, is_done_more, none_numbered, open_asked, open_born}
use Rattle.sq_machine.proofs.OpenCheckLaws.{is_itself}
use Rattle.sq_model.specs.CheckRows.{Ends, Held, after_ends, after_step, begun, ends_at, held_at, held_checks, held_of, is_told_done, served, served_by, step_count, stepped, unasked, without_check, without_conn}
use Rattle.sq_model.specs.MarkedEntries.{LeavesChecks, noted_at, stepped_at, stepped_check}
use Rattle.sq_model.proofs.NumberLaws.{answers_above, done_above, last_wait_above, step_count_above}
use Rattle.sq_model.proofs.RowLaws.{picked, row_found, rows_changed, rows_left, rows_next, rows_same}

same_held : (a b : Held) → a.number ≡ b.number → a.asked ≡ b.asked → a.waits ≡ b.waits → a.answers ≡ b.answers
    → a.done ≡ b.done → a.steps ≡ b.steps → a ≡ b
same_held a b n k w s d c = λ i.
    record { number = n i; asked = k i; waits = w i; answers = s i; done = d i; steps = c i }

-- an event that steps no check
pub steps_none : (m : Past) (n : ℕ) (event : Event) → stepped_check event ≡ None → steps m n event ≡ false
steps_none m n (Step k) e = absurd (cc)
steps_none m n event e = refl

done_none : (event : Event) (answer : Told) → stepped_check event ≡ None → done_check event answer ≡ None
done_none (Step k) answer e = absurd (cc)
done_none event answer e = refl

-- the end of a question stays where an entry ends none
pub question_end_kept : (configs : List Configuration) (m : Past) (x : Marked) (q : ℕ)
    → end_at configs m q x.entry.event x.entry.answer ≡ None
    → question_end configs (x ∷ m) q ≡ question_end configs m q
question_end_kept configs m x q e = ap (λ (w : Option What). first_end x.entry.moment w (question_end configs m q)) e

unended_kept : (configs : List Configuration) (m : Past) (x : Marked) (o : Option ℕ)
    → ((q : ℕ) → end_at configs m q x.entry.event x.entry.answer ≡ None)
    → unended configs (x ∷ m) o ≡ unended configs m o
unended_kept configs m x None e = refl
unended_kept configs m x (Some q) e = ap (λ (z : Option QuestionEnd). if is_some z then None else Some q)
    (question_end_kept configs m x q (e q))

-- what has not ended gives no answer
pub answer_by_none : (date q : ℕ) (p : Option Put) → answer_by date q p None ≡ None
answer_by_none date q None = refl
answer_by_none date q (Some p) = refl

-- where an entry ends no question, no check gets an answer by it
pub ended_none : (configs : List Configuration) (m : Past) (o : Option ℕ) (date : ℕ) (event : Event) (answer : Told)
    → ((q : ℕ) → end_at configs m q event answer ≡ None)
    → ended_answer configs m o date event answer ≡ None
ended_none configs m None date event answer e = refl
ended_none configs m (Some q) date event answer e = ap (answer_by date q (put_of m q)) (e q)
    ∙ answer_by_none date q (put_of m q)

-- what a check was told to wait for, after an event that steps no check
last_wait_kept : (m : Past) (x : Marked) (k : ℕ) → stepped_check x.entry.event ≡ None
    → last_wait (x ∷ m) k ≡ last_wait m k
last_wait_kept m x k e = ap (λ (b : Bool). if b then waits_told x.entry.answer else last_wait m k)
    (steps_none m k x.entry.event e)

answer_at_ended : (configs : List Configuration) (m : Past) (x : Marked) (k : ℕ) → stepped_check x.entry.event ≡ None
    → answer_at configs m k x
    ≡ ended_answer configs m (waits_for configs m k) x.entry.moment x.entry.event x.entry.answer
answer_at_ended configs m x k e =
    ap (λ (b : Bool). if b then x.took
    else ended_answer configs m (waits_for configs m k) x.entry.moment x.entry.event x.entry.answer)
    (steps_none m k x.entry.event e)

done_kept : (m : Past) (x : Marked) (k : ℕ) → stepped_check x.entry.event ≡ None
    → is_done (entries (x ∷ m)) k ≡ is_done (entries m) k
done_kept m x k e =
    is_done_more x.entry (entries m) k
    ∙ ap (λ (o : Option ℕ). (is_number k o && nat_le k (ask_count (entries m))) || is_done (entries m) k)
    (done_none x.entry.event x.entry.answer e)

steps_kept : (m : Past) (x : Marked) (k : ℕ) → stepped_check x.entry.event ≡ None
    → min last_number (step_count (x ∷ m) k) ≡ min last_number (step_count m k)
steps_kept m x k e = ap (λ (b : Bool). min last_number (if b then suc (step_count m k) else step_count m k))
    (steps_none m k x.entry.event e)

-- a check that an entry does not begin or step, where it ends no question
pub held_kept : (configs : List Configuration) (m : Past) (x : Marked) (k : ℕ)
    → numbered k (ask_count (entries m)) (asking x.entry.event) ≡ None
    → stepped_check x.entry.event ≡ None → ((q : ℕ) → end_at configs m q x.entry.event x.entry.answer ≡ None)
    → held_of configs (x ∷ m) k ≡ held_of configs m k
held_kept configs m x k old e ends =
    same_held (held_of configs (x ∷ m) k) (held_of configs m k) refl
    (ap (λ (o : Option Asked). unwrap_or o unasked) (ask_of_kept x.entry (entries m) k old))
    (ap (unended configs (x ∷ m)) (last_wait_kept m x k e) ∙ unended_kept configs m x (last_wait m k) ends)
    (ap (λ (o : Option Answer). answers configs m k ++ option_to_list o)
    (answer_at_ended configs m x k e
    ∙ ended_none configs m (waits_for configs m k) x.entry.moment x.entry.event x.entry.answer ends)
    ∙ append-nil (answers configs m k))
    (done_kept m x k e)
    (steps_kept m x k e)

-- what is open, and how many were asked, after an event that begins and ends no check
open_kept : (m : Past) (x : Marked) (k : ℕ) → LeavesChecks x.entry.event
    → check_open (entries (x ∷ m)) k ≡ check_open (entries m) k
open_kept m x k l =
    check_open_kept x.entry (entries m) k (none_numbered k (ask_count (entries m)) (asking x.entry.event) l.asks_none)
    ∙ ap₂ (λ (o p : Option ℕ). if is_number k o || closes p (conn_of (entries m) k) then false
    else check_open (entries m) k) l.takes_none l.closes_none

count_kept : (m : Past) (x : Marked) → asking x.entry.event ≡ None → ask_count (entries (x ∷ m)) ≡ ask_count (entries m)
count_kept m x e = ask_count_more x.entry (entries m) ∙ ap (λ (o : Option Asking). more_if o (ask_count (entries m))) e

-- an event that begins, steps and ends no check and ends no question leaves the open checks
pub held_same : (configs : List Configuration) (m : Past) (x : Marked) → LeavesChecks x.entry.event
    → ((q : ℕ) → end_at configs m q x.entry.event x.entry.answer ≡ None)
    → held_checks configs (x ∷ m) ≡ held_checks configs m
held_same configs m x l ends =
    ap (rows (held_of configs (x ∷ m)) (check_open (entries (x ∷ m)))) (count_kept m x l.asks_none)
    ∙ rows_same (held_of configs m) (held_of configs (x ∷ m)) (check_open (entries m)) (check_open (entries (x ∷ m)))
    (ask_count (entries m))
    (λ k low high. open_kept m x k l)
    (λ k low high is. held_kept configs m x k
    (none_numbered k (ask_count (entries m)) (asking x.entry.event) l.asks_none) l.steps_none ends)

-- a check takes the answer that the question gives that it waits for
serve : (r : Option Answer) (h : Held) (w : Option ℕ) → (r ≡ None → w ≡ h.waits) → (is_some r ≡ true → w ≡ None)
    → ◌≡◌ {A = Held} (record h { waits = w; answers = h.answers ++ option_to_list r }) (served_by r h)
serve None h w none some = λ i. record h { waits = none refl i; answers = append-nil h.answers i }
serve (Some a) h w none some = λ i. record h { waits = some refl i; answers = h.answers ++ a ∷ [] }

by_ends : (configs : List Configuration) (m : Past) (o : Option ℕ) (date : ℕ) (event : Event) (answer : Told)
    → ended_answer configs m o date event answer
    ≡ option_and_then (λ q. answer_by date q (put_of m q) (end_at configs m q event answer)) o
by_ends configs m None date event answer = refl
by_ends configs m (Some q) date event answer = refl

-- what a question that a check waits for gives: nothing, or the answer, and then the check waits no more
record Gives (o : Option ℕ) (w u : Option ℕ) (r : Option Answer) : Type 0 where
  none : r ≡ None → w ≡ u
  some : is_some r ≡ true → w ≡ None

gives_by : (ends : Ends) (date q : ℕ) (e : Option QuestionEnd) (w : Option What) (p : Option Put) → is_some p ≡ true
    → ends q ≡ answer_by date q p w
    → Gives (Some q) (if is_some (first_end date w e) then None else Some q) (if is_some e then None else Some q)
    (option_and_then ends (if is_some e then None else Some q))
gives_by ends date q (Some z) None p is at = record { none = λ e. refl; some = λ e. refl }
gives_by ends date q (Some z) (Some w) p is at = record { none = λ e. refl; some = λ e. refl }
gives_by ends date q None None p is at =
    record { none = λ e. refl; some = λ e. let no : ends q ≡ None = at ∙ answer_by_none date q p in absurd (cc) }
gives_by ends date q None (Some w) None is at = absurd (cc)
gives_by ends date q None (Some w) (Some p) is at = record { none = λ e. absurd (cc); some = λ e. refl }

-- what a check was told to wait for was put
pub record WaitsForPut (m : Past) (k : ℕ) : Type 0 where
  pub waits_put : (q : ℕ) → last_wait m k ≡ Some q → is_some (put_of m q) ≡ true

gives_at : (configs : List Configuration) (m : Past) (x : Marked) (o : Option ℕ)
    → ((q : ℕ) → o ≡ Some q → is_some (put_of m q) ≡ true)
    → Gives o (unended configs (x ∷ m) o) (unended configs m o)
    (option_and_then (ends_at configs m x) (unended configs m o))
gives_at configs m x None put = record { none = λ e. refl; some = λ e. refl }
gives_at configs m x (Some q) put =
    gives_by (ends_at configs m x) x.entry.moment q (question_end configs m q)
    (end_at configs m q x.entry.event x.entry.answer) (put_of m q) (put q refl) refl

-- a check after an entry that may end the question that it waits for
pub held_served : (configs : List Configuration) (m : Past) (x : Marked) (k : ℕ)
    → numbered k (ask_count (entries m)) (asking x.entry.event) ≡ None
    → stepped_check x.entry.event ≡ None → WaitsForPut m k
    → held_of configs (x ∷ m) k ≡ served (ends_at configs m x) (held_of configs m k)
held_served configs m x k old e put =
    let g = gives_at configs m x (last_wait m k) put.waits_put in
    let h = held_of configs m k in
    let r : Option Answer = option_and_then (ends_at configs m x) (waits_for configs m k) in
    same_held (held_of configs (x ∷ m) k)
    (record h { waits = unended configs (x ∷ m) (last_wait m k); answers = h.answers ++ option_to_list r }) refl
    (ap (λ (o : Option Asked). unwrap_or o unasked) (ask_of_kept x.entry (entries m) k old))
    (ap (unended configs (x ∷ m)) (last_wait_kept m x k e))
    (ap (λ (o : Option Answer). answers configs m k ++ option_to_list o)
    (answer_at_ended configs m x k e
    ∙ by_ends configs m (waits_for configs m k) x.entry.moment x.entry.event x.entry.answer))
    (done_kept m x k e)
    (steps_kept m x k e)
    ∙ serve r h (unended configs (x ∷ m) (last_wait m k)) g.none g.some

-- a line, a death or a failed start: each check that waits for a question that ends takes its answer
pub held_ended : (configs : List Configuration) (m : Past) (x : Marked) → LeavesChecks x.entry.event
    → ((k : ℕ) → WaitsForPut m k)
    → held_checks configs (x ∷ m) ≡ after_ends (ends_at configs m x) (held_checks configs m)
held_ended configs m x l put =
    ap (rows (held_of configs (x ∷ m)) (check_open (entries (x ∷ m)))) (count_kept m x l.asks_none)
    ∙ rows_changed (served (ends_at configs m x)) (held_of configs m) (held_of configs (x ∷ m)) (check_open (entries m))
    (check_open (entries (x ∷ m))) (ask_count (entries m))
    (λ k low high. open_kept m x k l)
    (λ k low high is. held_served configs m x k
    (none_numbered k (ask_count (entries m)) (asking x.entry.event) l.asks_none) l.steps_none (put k))

-- the check that is stepped
stepped_here : (configs : List Configuration) (m : Past) (now n k : ℕ) (s : StepSays) → (k == n) ≡ true
    → nat_le k (ask_count (entries m)) ≡ true
    → unended configs m (waits_told s.answer) ≡ waits_told s.answer
    → held_of configs (stepped_at now n s ∷ m) k ≡ stepped s (held_of configs m k)
stepped_here configs m now n k s same born waits =
    let here : ((k == n) && nat_le k (ask_count (entries m))) ≡ true = ap₂ (λ (a b : Bool). a && b) same born in
    same_held (held_of configs (stepped_at now n s ∷ m) k) (stepped s (held_of configs m k)) refl
    (ap (λ (o : Option Asked). unwrap_or o unasked) (ask_of_kept (stepped_at now n s).entry (entries m) k refl))
    (ap (λ (b : Bool). unended configs (stepped_at now n s ∷ m) (if b then waits_told s.answer else last_wait m k)) here
    ∙ unended_kept configs m (stepped_at now n s) (waits_told s.answer) (λ q. refl) ∙ waits)
    (ap (λ (b : Bool). answers configs m k
    ++ option_to_list (if b then s.took else ended_answer configs m (waits_for configs m k) now (Step n) s.answer))
    here)
    (is_done_more (stepped_at now n s).entry (entries m) k ∙ done_by s.answer same born)
    (ap (λ (b : Bool). min last_number (if b then suc (step_count m k) else step_count m k)) here
    ∙ capped (step_count m k))
  where
    told_is : (answer : Told) → (k == n) ≡ true → is_number k (told_done n answer) ≡ is_told_done answer
    told_is told.Done same = same
    told_is answer same = refl

    done_by : (answer : Told) → (k == n) ≡ true → nat_le k (ask_count (entries m)) ≡ true
        → ((is_number k (told_done n answer) && nat_le k (ask_count (entries m))) || is_done (entries m) k)
        ≡ (is_told_done answer || is_done (entries m) k)
    done_by answer same born =
        ap₂ (λ (a b : Bool). (a && b) || is_done (entries m) k) (told_is answer same) born
        ∙ ap (λ (b : Bool). b || is_done (entries m) k) (and_true (is_told_done answer))
      where
        and_true : (b : Bool) → (b && true) ≡ b
        and_true true = refl
        and_true false = refl

    capped : (c : ℕ) → min last_number (suc c) ≡ min last_number (suc (min last_number c))
    capped c = omega arith

-- another check
stepped_other : (configs : List Configuration) (m : Past) (now n k : ℕ) (s : StepSays) → (k == n) ≡ false
    → held_of configs (stepped_at now n s ∷ m) k ≡ held_of configs m k
stepped_other configs m now n k s other =
    let none : ((k == n) && nat_le k (ask_count (entries m))) ≡ false =
    and_left (k == n) (nat_le k (ask_count (entries m))) other in
    same_held (held_of configs (stepped_at now n s ∷ m) k) (held_of configs m k) refl
    (ap (λ (o : Option Asked). unwrap_or o unasked) (ask_of_kept (stepped_at now n s).entry (entries m) k refl))
    (ap (λ (b : Bool). unended configs (stepped_at now n s ∷ m) (if b then waits_told s.answer else last_wait m k)) none
    ∙ unended_kept configs m (stepped_at now n s) (last_wait m k) (λ q. refl))
    (ap (λ (b : Bool). answers configs m k
    ++ option_to_list (if b then s.took else ended_answer configs m (waits_for configs m k) now (Step n) s.answer)) none
    ∙ ap (λ (o : Option Answer). answers configs m k ++ option_to_list o)
    (ended_none configs m (waits_for configs m k) now (Step n) s.answer (λ q. refl))
    ∙ append-nil (answers configs m k))
    (is_done_more (stepped_at now n s).entry (entries m) k ∙ done_by s.answer)
    (ap (λ (b : Bool). min last_number (if b then suc (step_count m k) else step_count m k)) none)
  where
    told_not : (answer : Told) → is_number k (told_done n answer) ≡ false
    told_not told.Done = other
    told_not answer = refl

    done_by : (answer : Told)
        → ((is_number k (told_done n answer) && nat_le k (ask_count (entries m))) || is_done (entries m) k)
        ≡ is_done (entries m) k
    done_by answer = ap (λ (a : Bool). (a && nat_le k (ask_count (entries m))) || is_done (entries m) k)
        (told_not answer)

stepped_row : (configs : List Configuration) (m : Past) (now n k : ℕ) (s : StepSays) (b : Bool) → (k == n) ≡ b
    → nat_le k (ask_count (entries m)) ≡ true
    → unended configs m (waits_told s.answer) ≡ waits_told s.answer
    → held_of configs (stepped_at now n s ∷ m) k ≡ (if b then stepped s (held_of configs m k) else held_of configs m k)
stepped_row configs m now n k s true same born waits = stepped_here configs m now n k s same born waits
stepped_row configs m now n k s false same born waits = stepped_other configs m now n k s same

-- a step of check n, whatever it says, where what it tells to wait for has not ended
pub held_stepped : (configs : List Configuration) (m : Past) (now n : ℕ) (s : StepSays)
    → unended configs m (waits_told s.answer) ≡ waits_told s.answer
    → held_checks configs (stepped_at now n s ∷ m) ≡ after_step n s (held_checks configs m)
held_stepped configs m now n s waits =
    ap (rows (held_of configs (stepped_at now n s ∷ m)) (check_open (entries (stepped_at now n s ∷ m))))
    (count_kept m (stepped_at now n s) refl)
    ∙ rows_changed (λ (h : Held). if n == h.number then stepped s h else h) (held_of configs m)
    (held_of configs (stepped_at now n s ∷ m)) (check_open (entries m))
    (check_open (entries (stepped_at now n s ∷ m))) (ask_count (entries m))
    (λ k low high. check_open_kept (stepped_at now n s).entry (entries m) k refl)
    (λ k low high is. stepped_row configs m now n k s (k == n) refl (le-leb k (ask_count (entries m)) high) waits
    ∙ ap (λ (b : Bool). if b then stepped s (held_of configs m k) else held_of configs m k) (eq_turned k n))

-- the outcome of check n is taken
pub held_taken : (configs : List Configuration) (m : Past) (now n : ℕ) (answer : Told)
    → held_checks configs (noted_at now (Take n) answer ∷ m) ≡ without_check n (held_checks configs m)
held_taken configs m now n answer =
    ap (rows (held_of configs (noted_at now (Take n) answer ∷ m))
    (check_open (entries (noted_at now (Take n) answer ∷ m)))) (count_kept m (noted_at now (Take n) answer) refl)
    ∙ rows_left (λ (h : Held). not (n == h.number)) (held_of configs m)
    (held_of configs (noted_at now (Take n) answer ∷ m)) (check_open (entries m))
    (check_open (entries (noted_at now (Take n) answer ∷ m))) (ask_count (entries m))
    (λ k low high. check_open_kept (noted_at now (Take n) answer).entry (entries m) k refl
    ∙ left_by (k == n) (n == k) (check_open (entries m) k) (eq_turned k n))
    (λ k low high is. held_kept configs m (noted_at now (Take n) answer) k refl refl (λ q. refl))
  where
    left_by : (a b c : Bool) → a ≡ b → (if a || false then false else c) ≡ (c && not b)
    left_by true true true e = refl
    left_by true true false e = refl
    left_by false false true e = refl
    left_by false false false e = refl
    left_by true false c e = absurd (cc)
    left_by false true c e = absurd (cc)

-- connection c is closed
pub held_closed : (configs : List Configuration) (m : Past) (now c : ℕ) (answer : Told)
    → held_checks configs (noted_at now (Close c) answer ∷ m) ≡ without_conn c (held_checks configs m)
held_closed configs m now c answer =
    ap (rows (held_of configs (noted_at now (Close c) answer ∷ m))
    (check_open (entries (noted_at now (Close c) answer ∷ m)))) (count_kept m (noted_at now (Close c) answer) refl)
    ∙ rows_left (λ (h : Held). not (c == h.asked.conn)) (held_of configs m)
    (held_of configs (noted_at now (Close c) answer ∷ m)) (check_open (entries m))
    (check_open (entries (noted_at now (Close c) answer ∷ m))) (ask_count (entries m))
    (λ k low high. check_open_kept (noted_at now (Close c) answer).entry (entries m) k refl
    ∙ left_by k (check_open (entries m) k) refl)
    (λ k low high is. held_kept configs m (noted_at now (Close c) answer) k refl refl (λ q. refl))
  where
    shut : (t u : Bool) → (if t then false else false) ≡ (false && u)
    shut true u = refl
    shut false u = refl

    turned : (t : Bool) → (if t then false else true) ≡ (true && not t)
    turned true = refl
    turned false = refl

    by_conn : (o : Option Asked) → IsAsked o
        → (if is_number c (option_map (λ x. x.conn) o) then false else true)
        ≡ (true && not (c == (unwrap_or o unasked).conn))
    by_conn None a = let is = a.is in absurd (cc)
    by_conn (Some x) a = turned (c == x.conn)

    left_by : (k : ℕ) (b : Bool) → check_open (entries m) k ≡ b
        → (if is_number c (conn_of (entries m) k) then false else b)
        ≡ (b && not (c == (unwrap_or (ask_of (entries m) k) unasked).conn))
    left_by k true is = by_conn (ask_of (entries m) k) (open_asked (entries m) k is)
    left_by k false is = shut (is_number c (conn_of (entries m) k))
        (not (c == (unwrap_or (ask_of (entries m) k) unasked).conn))

-- a request of connection c: a check begins, with the next number
pub held_asked : (configs : List Configuration) (m : Past) (now c : ℕ) (method target : List ℕ) (fields : List Field)
    (answer : Told)
    → held_checks configs (noted_at now (Ask c method target fields) answer ∷ m)
    ≡ held_checks configs m
    ++ begun (suc (ask_count (entries m)))
    (asked_by (entries m) now (record { conn = c; method = method; target = target; fields = fields })) ∷ []
held_asked configs m now c method target fields answer =
    ap (rows (held_of configs (x ∷ m)) (check_open (entries (x ∷ m)))) (ask_count_more x.entry (entries m))
    ∙ rows_next (held_of configs m) (held_of configs (x ∷ m)) (check_open (entries m)) (check_open (entries (x ∷ m)))
    count true
    (check_open_begun x.entry (entries m) (suc count) a new)
    (λ k low high. check_open_kept x.entry (entries m) k (old k high))
    (λ k low high is. held_kept configs m x k (old k high) refl (λ q. refl))
    ∙ ap (λ (h : Held). held_checks configs m ++ h ∷ []) first
  where
    x : Marked
    x = noted_at now (Ask c method target fields) answer

    count : ℕ
    count = ask_count (entries m)

    a : Asking
    a = record { conn = c; method = method; target = target; fields = fields }

    new : numbered (suc count) count (Some a) ≡ Some a
    new = ap (λ (b : Bool). if b then Some a else None) (is_itself (suc count))

    old : (k : ℕ) → k ≤ count → numbered k count (Some a) ≡ None
    old k high = ap (λ (b : Bool). if b then Some a else None) (below k count high)
      where
        below : (k n : ℕ) → k ≤ n → (k == suc n) ≡ false
        below k n high = grind (arith, nat_tests)

    first : held_of configs (x ∷ m) (suc count) ≡ begun (suc count) (asked_by (entries m) now a)
    first =
        same_held (held_of configs (x ∷ m) (suc count)) (begun (suc count) (asked_by (entries m) now a)) refl
        (ap (λ (o : Option Asked). unwrap_or o unasked) (ask_of_begun x.entry (entries m) (suc count) a new))
        (ap (unended configs (x ∷ m)) (last_wait_above m (suc count) (omega arith)))
        (ap₂ (λ (s : List Answer) (o : Option ℕ). s
        ++ option_to_list (ended_answer configs m (unended configs m o) now (Ask c method target fields) answer))
        (answers_above configs m (suc count) (omega arith)) (last_wait_above m (suc count) (omega arith)))
        (is_done_more x.entry (entries m) (suc count) ∙ done_above (entries m) (suc count) (omega arith))
        (ap (min last_number) (step_count_above m (suc count) (omega arith)) ∙ zero)
      where
        zero : min last_number 0 ≡ 0
        zero = omega arith

-- a check that is open has one of the numbers that were given
pub unopened : (m : Past) (n : ℕ) (b : Bool) → check_open (entries m) n ≡ b
    → picked (check_open (entries m)) (ask_count (entries m)) n ≡ b
unopened m n true is =
    let born = open_born (entries m) n is in
    ap₂ (λ (x y : Bool). (x && y) && check_open (entries m) n) (le-leb 1 n (positive n is))
    (le-leb n (ask_count (entries m)) born) ∙ is
  where
    some : (n : ℕ) (b : Bool) → (n == 0) ≡ b → check_open (entries m) n ≡ true → 1 ≤ n
    some n true z e =
        let none : n ≡ 0 = grind (arith, nat_tests) in
        let shut = check_open_unborn (entries m) n (record { unborn = inl none }) in absurd (cc)
    some n false z e = grind (arith, nat_tests)

    positive : (n : ℕ) → check_open (entries m) n ≡ true → 1 ≤ n
    positive n e = some n (n == 0) refl e
unopened m n false is = and_right (nat_le 1 n && nat_le n (ask_count (entries m))) (check_open (entries m) n) is

-- an open check is found by its number, and is as the history says
pub held_found : (configs : List Configuration) (m : Past) (n : ℕ)
    → held_at n (held_checks configs m) ≡ (if check_open (entries m) n then Some (held_of configs m n) else None)
held_found configs m n =
    row_found (λ (h : Held). n == h.number) (held_of configs m) (check_open (entries m)) (ask_count (entries m)) n
    (λ k low high is. refl)
    ∙ ap (λ (b : Bool). if b then Some (held_of configs m n) else None) (unopened m n (check_open (entries m) n) refl)
