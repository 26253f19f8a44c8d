-- In the statement: docs/STATEMENT.md lists which definitions.
-- The records that were last taken on connections.
use Rattle.std.specs.Prelude.{ℕ, List, [], ◌∷◌, Bool, ◌==◌, if◌then◌else◌, Some, None}
use Rattle.std.specs.declared.option.Option.{Option}
use Rattle.sq_base.specs.declared.helpers.Answer.{Answer}
use Rattle.sq_machine.specs.declared.entries.Event.{Event}
use Rattle.sq_machine.specs.declared.entries.Event.TheVariants.{Close, Take}
use Rattle.sq_machine.specs.declared.entries.Told.{Told}
use Rattle.sq_machine.specs.declared.entries.Told.TheVariants as told
use Rattle.sq_rules.specs.Configurations.{Configuration}
use Rattle.sq_machine.specs.AnswerReadings.{answers}
use Rattle.sq_machine.specs.Checks.{Asked, ask_of, conn_of}
use Rattle.sq_machine.specs.Entries.{History}
use Rattle.sq_machine.specs.Events.{is_number}
use Rattle.sq_machine.specs.Marks.{Past, entries}

-- a check whose record was taken, and whether it allows
pub record TakenCheck : Type 0 where
  pub asked : Asked
  pub allows : Bool

-- the check that a take ended, with its verdict
abbrev pub taking : Told → Option Asked → Option TakenCheck
taking (told.Judged epoch o) (Some a) = Some (record { asked = a; allows = o.allow })
taking answer a = None

-- the last check that was taken on connection c, after an event
abbrev pub taken_after : History → ℕ → Event → Told → Option TakenCheck → Option TakenCheck
taken_after h c (Take n) answer before = if is_number c (conn_of h n) then taking answer
    (ask_of h n) else before
taken_after h c (Close d) answer before = if d == c then None else before
taken_after h c event answer before = before

-- the check whose record was last taken on connection c, where c was not closed since
abbrev pub taken_of : History → ℕ → Option TakenCheck
taken_of [] c = None
taken_of (e ∷ h) c = taken_after h c e.event e.answer (taken_of h c)

-- the check, if it was allowed
abbrev pub if_allowed : Option TakenCheck → Option Asked
if_allowed None = None
if_allowed (Some t) = if t.allows then Some t.asked else None

-- the check of that record, where it allows
abbrev pub allowed_of : History → ℕ → Option Asked
allowed_of h c = if_allowed (taken_of h c)

-- the answers of the last check that was taken on connection c, after an event
abbrev pub answers_after : List Configuration → Past → ℕ → Event → List Answer → List Answer
answers_after configs m c (Take n) before = if is_number c (conn_of (entries m) n) then answers
    configs m n else before
answers_after configs m c event before = before

-- the answers of that record: those that its check had as it was taken
abbrev pub taken_answers : List Configuration → Past → ℕ → List Answer
taken_answers configs [] c = []
taken_answers configs (x ∷ m) c =
    answers_after configs m c x.entry.event (taken_answers configs m c)
