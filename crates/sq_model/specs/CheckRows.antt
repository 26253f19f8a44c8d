-- In the statement: docs/STATEMENT.md lists which definitions.
-- Open checks as rows, and what a step and the ends of questions do to them.
use Rattle.std.specs.Prelude.{ℕ, suc, min, List, [], ◌∷◌, ◌++◌, Bool, true, false, ◌||◌, ◌==◌, if◌then◌else◌, filter, find, map, not, Some, None}
use Rattle.std.specs.Option.{option_and_then, option_to_list, unwrap_or}
use Rattle.std.specs.declared.option.Option.{Option}
use Rattle.sq_base.specs.declared.helpers.Answer.{Answer}
use Rattle.sq_machine.specs.AnswerReadings.{answer_by, answers, steps, waits_for, waits_told}
use Rattle.sq_machine.specs.Checks.{Asked, ask_count, ask_of, check_open, is_done, nobody, sight_of}
use Rattle.sq_rules.specs.Configurations.{Configuration}
use Rattle.sq_machine.specs.Limits.{last_number}
use Rattle.sq_machine.specs.Marks.{Marked, Past, entries}
use Rattle.sq_machine.specs.Numbered.{rows}
use Rattle.sq_machine.specs.Questions.{end_at, put_of}
use Rattle.sq_machine.specs.StepRule.{StepSays}
use Rattle.sq_machine.specs.declared.entries.Told.{Told}
use Rattle.sq_machine.specs.declared.entries.Told.TheVariants as told

-- an open check: its number, what it is of, the question that it waits for, the answers that it
-- took, the oldest first, whether a step of it was answered that it is done, and how often it was
-- stepped, up to the last number
pub record Held : Type 0 where
  pub number : ℕ
  pub asked : Asked
  pub waits : Option ℕ
  pub answers : List Answer
  pub done : Bool
  pub steps : ℕ

-- the check that nobody asked
abbrev pub unasked : Asked
unasked = record { conn = 0; epoch = 0; sight = sight_of [] 0 nobody [] [] [] }

-- how often check n was stepped
abbrev pub step_count : Past → ℕ → ℕ
step_count [] n = 0
step_count (x ∷ m) n = if steps m n x.entry.event then suc (step_count m n) else step_count m n

-- check n as a history leaves it
abbrev pub held_of : List Configuration → Past → ℕ → Held
held_of configs m n = record {
  number = n;
  asked = unwrap_or (ask_of (entries m) n) unasked;
  waits = waits_for configs m n;
  answers = answers configs m n;
  done = is_done (entries m) n;
  steps = min last_number (step_count m n);
}

-- the open checks, by number
abbrev pub held_checks : List Configuration → Past → List Held
held_checks configs m = rows (held_of configs m) (check_open (entries m)) (ask_count (entries m))

-- a check that begins
abbrev pub begun : ℕ → Asked → Held
begun n a = record { number = n; asked = a; waits = None; answers = []; done = false; steps = 0 }

-- the check with this number
abbrev pub held_at : ℕ → List Held → Option Held
held_at n checks = find (λ h. n == h.number) checks

-- the open check of a connection
abbrev pub held_on : ℕ → List Held → Option Held
held_on c checks = find (λ h. c == h.asked.conn) checks

-- whether the answer is that there is a verdict
abbrev pub is_told_done : Told → Bool
is_told_done told.Done = true
is_told_done answer = false

-- a check after a step that says so
abbrev pub stepped : StepSays → Held → Held
stepped s h = record {
  number = h.number;
  asked = h.asked;
  waits = waits_told s.answer;
  answers = h.answers ++ option_to_list s.took;
  done = is_told_done s.answer || h.done;
  steps = min last_number (suc h.steps);
}

-- the checks after a step of check n
abbrev pub after_step : ℕ → StepSays → List Held → List Held
after_step n s checks = map (λ h. if n == h.number then stepped s h else h) checks

-- what questions give the checks that wait for them; None where the question did not end
abbrev pub Ends : Type 0
Ends = ℕ → Option Answer

-- no question ended
abbrev pub no_end : Ends
no_end q = None

-- this question ended with this answer
abbrev pub one_end : ℕ → Answer → Ends
one_end q a p = if p == q then Some a else None

-- what the questions of a history are given by the next entry
abbrev pub ends_at : List Configuration → Past → Marked → Ends
ends_at configs m x q = answer_by x.entry.moment q (put_of m q)
    (end_at configs m q x.entry.event x.entry.answer)

-- a check after a question gave it an answer
abbrev pub served_by : Option Answer → Held → Held
served_by None h = h
served_by (Some a) h = record h { waits = None; answers = h.answers ++ a ∷ [] }

-- a check after ends of questions: it takes the answer of the one that it waits for
abbrev pub served : Ends → Held → Held
served ends h = served_by (option_and_then ends h.waits) h

-- the checks after ends of questions
abbrev pub after_ends : Ends → List Held → List Held
after_ends ends checks = map (served ends) checks

-- the checks without check n
abbrev pub without_check : ℕ → List Held → List Held
without_check n checks = filter (λ h. not (n == h.number)) checks

-- the checks without those of a connection
abbrev pub without_conn : ℕ → List Held → List Held
without_conn c checks = filter (λ h. not (c == h.asked.conn)) checks
