-- In the statement: docs/STATEMENT.md lists which definitions.
-- The answers that a check has, as a history leaves them.
use Rattle.std.specs.Prelude.{ℕ, List, [], ◌∷◌, ◌++◌, Bool, false, ◌&&◌, ◌==◌, if◌then◌else◌, nat_le, Some, None}
use Rattle.std.specs.Option.{option_to_list}
use Rattle.std.specs.declared.option.Option.{Option}
use Rattle.sq_base.specs.declared.helpers.Answer.{Answer}
use Rattle.sq_base.specs.declared.helpers.What.{What}
use Rattle.sq_machine.specs.declared.entries.Event.{Event}
use Rattle.sq_machine.specs.declared.entries.Event.TheVariants.{Step}
use Rattle.sq_machine.specs.declared.entries.Told.{Told}
use Rattle.sq_machine.specs.declared.entries.Told.TheVariants as told
use Rattle.sq_rules.specs.Configurations.{Configuration}
use Rattle.sq_machine.specs.Marks.{Marked, Past, Put, entries}
use Rattle.sq_machine.specs.Questions.{end_at, put_of, unended}
use Rattle.sq_machine.specs.Checks.{ask_count}

-- the question that a check was told to wait for
abbrev pub waits_told : Told → Option ℕ
waits_told (told.Waits q) = Some q
waits_told answer = None

-- whether the event is a step of check n, which has begun
abbrev pub steps : Past → ℕ → Event → Bool
steps m n (Step k) = (n == k) && nat_le n (ask_count (entries m))
steps m n event = false

-- what the last step of check n told it to wait for
abbrev pub last_wait : Past → ℕ → Option ℕ
last_wait [] n = None
last_wait (x ∷ m) n = if steps m n x.entry.event then waits_told x.entry.answer else last_wait m n

-- the question that check n waits for: its last step said so, and the question has not ended
abbrev pub waits_for : List Configuration → Past → ℕ → Option ℕ
waits_for configs m n = unended configs m (last_wait m n)

-- the answer that the end of a question gives, taken as it comes
abbrev pub answer_by : ℕ → ℕ → Option Put → Option What → Option Answer
answer_by date q (Some p) (Some w) = Some
    (record {
      class = p.class;
      key = p.key;
      what = w;
      question = Some q;
      date = date;
      taken = date;
    })
answer_by date q put w = None

-- the answer that an event gives to the question that a check waits for
abbrev pub ended_answer : List Configuration → Past → Option ℕ → ℕ → Event → Told → Option Answer
ended_answer configs m None date event answer = None
ended_answer configs m (Some q) date event answer = answer_by date q (put_of m q)
    (end_at configs m q event answer)

-- what an entry gives check n: what it took at its step, or the end of the question that it waits
-- for
abbrev pub answer_at : List Configuration → Past → ℕ → Marked → Option Answer
answer_at configs m n x =
    if steps m n x.entry.event then x.took
    else ended_answer configs m (waits_for configs m n) x.entry.moment x.entry.event x.entry.answer

-- the answers of check n, in the order in which they were taken
abbrev pub answers : List Configuration → Past → ℕ → List Answer
answers configs [] n = []
answers configs (x ∷ m) n = answers configs m n ++ option_to_list (answer_at configs m n x)
