-- Numbers that were not given have nothing: a question above those that were put,
-- a process above those that were started, a check above those that were asked.
use Rattle.std.proofs.Common.{◌≡◌, ℕ, suc, ◌<◌, ◌≤◌, List, [], ◌∷◌, ◌++◌, Bool, true, false, not, ◌&&◌, ◌==◌, nat_le, bytes_eq, if◌then◌else◌, Option, Some, None, is_some, option_to_list, refl, ap, ap₂, ◌∙◌, arith, inl, inr}
use Rattle.std.specs.Option.{option_or, option_map_or}
use Rattle.std.proofs.lemmas.Bool.{and_right}
use Rattle.std.proofs.lemmas.Bool.Decides.{nat_tests}
use Rattle.std.proofs.lemmas.Option.{none-some}
use Rattle.sq_base.specs.declared.helpers.Cause.{Cause}
use Rattle.sq_base.specs.declared.helpers.Cause.TheVariants as cause
use Rattle.sq_base.specs.declared.helpers.What.TheVariants as what
use Rattle.sq_machine.specs.declared.entries.Event.{Event}
use Rattle.sq_machine.specs.declared.entries.Event.TheVariants.{Step, Line, Died, StartFail, Act}
use Rattle.sq_machine.specs.declared.entries.Told.{Told}
use Rattle.sq_machine.specs.declared.entries.Told.TheVariants as told
use Rattle.sq_machine.specs.AnswerReadings.{answers, ended_answer, last_wait, steps, waits_told}
use Rattle.sq_machine.specs.Checks.{ask_count, check_open, more_if, numbered, is_done}
use Rattle.sq_rules.specs.Configurations.{Configuration}
use Rattle.sq_machine.specs.Entries.{History}
use Rattle.sq_machine.specs.Epochs.{name_of_class}
use Rattle.sq_machine.specs.Events.{Asking, asking, is_number}
use Rattle.sq_machine.specs.Marks.{Past, Put, entries}
use Rattle.sq_machine.specs.Processes.{cause_here, ended_by, home_of, if_here, line_end, proc_count, proc_end, started_by}
use Rattle.sq_machine.specs.Questions.{end_at, end_told, first_end, leaves_none, put_count, put_of, question_end, said_by, send_told, sends, sent_to, unended}
use Rattle.sq_base.specs.Replies.{reply_of}
use Rattle.sq_machine.specs.Transcripts.{Use, after_use, holder, keeps, same_channel, stands_on, use_of, use_told}
use Rattle.sq_machine.proofs.CheckLaws.{check_open_unborn, is_done_unborn}
use Rattle.sq_model.specs.CheckRows.{step_count}

above : (q n : ℕ) → n < q → nat_le q n ≡ false
above q n l = grind (arith, nat_tests)

not_next : (q n : ℕ) → suc n < q → (q == suc n) ≡ false
not_next q n l = grind (arith, nat_tests)

next_by : {A : Type 0} (o : Option A) (q n : ℕ) (before : Option A) → (if is_some o then suc n else n) < q
    → (n < q → before ≡ None) → option_or (numbered q n o) before ≡ None
next_by None q n before l e = e l
next_by {A} (Some p) q n before l e = ap (λ (b : Bool). option_or (if b then Some p else None) before) (not_next q n l)
    ∙ e (omega arith)

-- a number above the new count is above the old one
pub above_before : {A : Type 0} (o : Option A) (n q : ℕ) → (if is_some o then suc n else n) < q → n < q
above_before None n q l = l
above_before (Some a) n q l = omega arith

-- a question above those that were put was not put
pub put_of_above : (m : Past) (q : ℕ) → put_count m < q → put_of m q ≡ None
put_of_above [] q l = refl
put_of_above (x ∷ m) q l = next_by x.put q (put_count m) (put_of m q) l (put_of_above m q)

nowhere : {A : Type 0} (a b : Bool) (o : Option A) → b ≡ false → if_here (a && b) o ≡ None
nowhere a b o e = ap (λ (c : Bool). if_here c o) (and_right a b e)

told_above : (m : Past) (q : ℕ) (answer : Told) → put_count m < q → send_told m q answer ≡ None
told_above m q (told.Send p r channel key) l = nowhere (q == r) (nat_le q (put_count m)) (Some p)
    (above q (put_count m) l)
told_above m q answer l = refl

sends_above : (m : Past) (q : ℕ) (event : Event) (answer : Told) → put_count m < q → sends m q event answer ≡ None
sends_above m q Act answer l = told_above m q answer l
sends_above m q event answer l = refl

-- it was sent nowhere
pub sent_above : (m : Past) (q : ℕ) → put_count m < q → sent_to m q ≡ None
sent_above [] q l = refl
sent_above (x ∷ m) q l =
    let before = above_before x.put (put_count m) q l in
    ap₂ (λ (o p : Option ℕ). option_or o p) (sends_above m q x.entry.event x.entry.answer before)
    (sent_above m q before)

ended_told_above : (configs : List Configuration) (m : Past) (q k : ℕ) (bytes : List ℕ) (answer : Told)
    → put_count m < q → end_told configs m q k bytes answer ≡ None
ended_told_above configs m q k bytes (told.Reply r w) l = nowhere (q == r) (nat_le q (put_count m))
    (said_by configs m k bytes) (above q (put_count m) l)
ended_told_above configs m q k bytes told.Bad l = ap (λ (o : Option ℕ). if_here (is_number k o)
    (Some (what.Fault cause.BadReply))) (sent_above m q l)
ended_told_above configs m q k bytes told.Stray l = ap (λ (o : Option ℕ). if_here (is_number k o)
    (Some (what.Fault cause.Stray))) (sent_above m q l)
ended_told_above configs m q k bytes answer l = refl

-- an entry does not end it
pub end_at_above : (configs : List Configuration) (m : Past) (q : ℕ) (event : Event) (answer : Told) → put_count m < q
    → end_at configs m q event answer ≡ None
end_at_above configs m q (Line k bytes) answer l = ended_told_above configs m q k bytes answer l
end_at_above configs m q (Died k) answer l = ap (λ (o : Option ℕ). if_here (is_number k o)
    (Some (what.Fault cause.Died))) (sent_above m q l)
end_at_above configs m q (StartFail e name) answer l =
    ap (λ (o : Option Put). if_here
    ((option_map_or (λ p. (p.epoch == e) && bytes_eq (name_of_class configs e p.class) name) o false
    && not (is_some (sent_to m q)))
    && leaves_none (entries m) e name) (Some (what.Fault cause.NoHelper))) (put_of_above m q l)
end_at_above configs m q event answer l = refl

-- it has no end
pub end_above : (configs : List Configuration) (m : Past) (q : ℕ) → put_count m < q → question_end configs m q ≡ None
end_above configs [] q l = refl
end_above configs (x ∷ m) q l =
    let before = above_before x.put (put_count m) q l in
    ap₂ (first_end x.entry.moment) (end_at_above configs m q x.entry.event x.entry.answer before)
    (end_above configs m q before)

-- a process above those that were started is of no class
pub home_above : (h : History) (k : ℕ) → proc_count h < k → home_of h k ≡ None
home_above [] k l = refl
home_above (e ∷ h) k l = next_by (started_by e.event) k (proc_count h) (home_of h k) l (home_above h k)

cause_nowhere : (o : Option Cause) (b : Bool) → b ≡ false → cause_here o b ≡ None
cause_nowhere None b e = refl
cause_nowhere (Some c) b e = ap (λ (x : Bool). if x then Some c else None) e

ended_by_above : (h : History) (k : ℕ) (event : Event) (answer : Told) → proc_count h < k
    → ended_by h k event answer ≡ None
ended_by_above h k (Died p) answer l = nowhere (k == p) (nat_le k (proc_count h)) (Some cause.Died)
    (above k (proc_count h) l)
ended_by_above h k (Line p bytes) answer l =
    cause_nowhere (line_end answer) ((k == p) && nat_le k (proc_count h))
    (and_right (k == p) (nat_le k (proc_count h)) (above k (proc_count h) l))
ended_by_above h k event answer l = refl

-- it has not ended
pub proc_end_above : (h : History) (k : ℕ) → proc_count h < k → proc_end h k ≡ None
proc_end_above [] k l = refl
proc_end_above (e ∷ h) k l =
    let before = above_before (started_by e.event) (proc_count h) k l in
    ap₂ (λ (o p : Option Cause). option_or o p) (ended_by_above h k e.event e.answer before) (proc_end_above h k before)

kept_by : (a b c : Bool) (u : Use) → b ≡ false → (if a && b && c then u else keeps) ≡ keeps
kept_by true true c u e = absurd (cc)
kept_by true false c u e = refl
kept_by false b c u e = refl

use_told_above : (h : History) (k : ℕ) (channel : Option ℕ) (answer : Told) → proc_count h < k
    → use_told h k channel answer ≡ keeps
use_told_above h k channel (told.Send p q c key) l = kept_by (k == p) (nat_le k (proc_count h)) (same_channel c channel)
    (Use.puts q) (above k (proc_count h) l)
use_told_above h k channel answer l = refl

use_above : (numbered : Bool) (h : History) (k : ℕ) (channel : Option ℕ) (event : Event) (answer : Told)
    → proc_count h < k → use_of numbered h k channel event answer ≡ keeps
use_above numbered h k channel Act answer l = use_told_above h k channel answer l
use_above numbered h k channel (Line p bytes) answer l =
    kept_by (k == p) (nat_le k (proc_count h)) (stands_on (reply_of numbered bytes) channel) Use.clears
    (above k (proc_count h) l)
use_above numbered h k channel event answer l = refl

-- it holds no question
pub holder_above : (numbered : Bool) (h : History) (k : ℕ) (channel : Option ℕ) → proc_count h < k
    → holder numbered h k channel ≡ None
holder_above numbered [] k channel l = refl
holder_above numbered (e ∷ h) k channel l =
    let before = above_before (started_by e.event) (proc_count h) k l in
    ap₂ after_use (use_above numbered h k channel e.event e.answer before) (holder_above numbered h k channel before)

-- a check above those that were asked is stepped by no event
pub not_stepped : (m : Past) (n : ℕ) (event : Event) → ask_count (entries m) < n → steps m n event ≡ false
not_stepped m n (Step k) l = and_right (n == k) (nat_le n (ask_count (entries m))) (above n (ask_count (entries m)) l)
not_stepped m n event l = refl

asked_before : {A : Type 0} (o : Option A) (n q : ℕ) → more_if o n < q → n < q
asked_before None n q l = l
asked_before (Some a) n q l = omega arith

-- it was told to wait for nothing
pub last_wait_above : (m : Past) (n : ℕ) → ask_count (entries m) < n → last_wait m n ≡ None
unfolding ask_count
last_wait_above [] n l = refl
last_wait_above (x ∷ m) n l =
    let before = asked_before (asking x.entry.event) (ask_count (entries m)) n l in
    ap₂ (λ (b : Bool) (o : Option ℕ). if b then waits_told x.entry.answer else o) (not_stepped m n x.entry.event before)
    (last_wait_above m n before)

-- it was not stepped
pub step_count_above : (m : Past) (n : ℕ) → ask_count (entries m) < n → step_count m n ≡ 0
unfolding ask_count
step_count_above [] n l = refl
step_count_above (x ∷ m) n l =
    let before = asked_before (asking x.entry.event) (ask_count (entries m)) n l in
    ap₂ (λ (b : Bool) (k : ℕ). if b then suc (step_count m n) else k) (not_stepped m n x.entry.event before)
    (step_count_above m n before)

-- it has no answers
pub answers_above : (configs : List Configuration) (m : Past) (n : ℕ) → ask_count (entries m) < n
    → answers configs m n ≡ []
unfolding ask_count
answers_above configs [] n l = refl
answers_above configs (x ∷ m) n l =
    let before = asked_before (asking x.entry.event) (ask_count (entries m)) n l in
    ap₂ (λ (b : Bool) (o : Option ℕ). answers configs m n
    ++ option_to_list (if b then x.took
    else ended_answer configs m (unended configs m o) x.entry.moment x.entry.event x.entry.answer))
    (not_stepped m n x.entry.event before) (last_wait_above m n before)
    ∙ ap (λ s. s ++ []) (answers_above configs m n before)

-- it is not done
pub done_above : (h : History) (n : ℕ) → ask_count h < n → is_done h n ≡ false
done_above h n l = is_done_unborn h n (record { unborn = inr l }) (λ e. omega arith)

-- the number of an open check is not 0
pub open_positive : (h : History) (n : ℕ) → check_open h n ≡ true → 1 ≤ n
open_positive h n opened = by n (n == 0) refl opened
  where
    zero_is : (n : ℕ) → (n == 0) ≡ true → n ≡ 0
    zero_is n e = grind (arith, nat_tests)

    by : (n : ℕ) (b : Bool) → (n == 0) ≡ b → check_open h n ≡ true → 1 ≤ n
    by n true z o = let shut = check_open_unborn h n (record { unborn = inl (zero_is n z) }) in absurd (cc)
    by n false z o = grind (arith, nat_tests)

-- a number that is given is above those before
pub new_number : (n k : ℕ) (o : Option Asking) (a : Asking) → numbered n k o ≡ Some a → k < n
new_number n k None a e = absurd (none-some a e)
new_number n k (Some b) a e = by (n == suc k) refl e
  where
    above : (n k : ℕ) → (n == suc k) ≡ true → k < n
    above n k e = grind (arith, nat_tests)

    by : (t : Bool) → (n == suc k) ≡ t → (if t then Some b else None) ≡ Some a → k < n
    by true t e = above n k t
    by false t e = absurd (none-some a e)
