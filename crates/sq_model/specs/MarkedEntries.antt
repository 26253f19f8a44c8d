-- Entries with their marks: a step as it says, and every other event, which puts nothing and takes
-- nothing.
use Rattle.std.specs.Prelude.{◌≡◌, ℕ, None, Some}
use Rattle.std.specs.declared.option.Option.{Option}
use Rattle.sq_machine.specs.declared.entries.Event.{Event}
use Rattle.sq_machine.specs.declared.entries.Event.TheVariants.{Step}
use Rattle.sq_machine.specs.declared.entries.Told.{Told}
use Rattle.sq_machine.specs.Events.{asking, closed_conn, taken_check}
use Rattle.sq_machine.specs.Marks.{Marked}
use Rattle.sq_machine.specs.StepRule.{StepSays}

-- a step of check n at a moment, which says so
abbrev pub stepped_at : ℕ → ℕ → StepSays → Marked
stepped_at now n s = record {
  entry = record { moment = now; event = Step n; answer = s.answer };
  put = s.put;
  took = s.took;
}

-- another event at a moment, with its answer
abbrev pub noted_at : ℕ → Event → Told → Marked
noted_at now event answer = record {
  entry =
      record { moment = now; event = event; answer = answer };
  put = None;
  took = None;
}

-- the check that an event steps
abbrev pub stepped_check : Event → Option ℕ
stepped_check (Step n) = Some n
stepped_check event = None

-- an event that begins, steps and ends no check
pub record LeavesChecks (event : Event) : Type 0 where
  pub asks_none : asking event ≡ None
  pub steps_none : stepped_check event ≡ None
  pub takes_none : taken_check event ≡ None
  pub closes_none : closed_conn event ≡ None
