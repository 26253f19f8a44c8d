-- What is said of a line that was handed to the desk.
use Rattle.std.specs.Prelude.{◌≡◌, ℕ, Bool, List, IsErrOf, Result, Ok, Err}
use Rattle.std.specs.declared.option.Option.{Option}
use Rattle.sq_channel.specs.declared.replies.Got.{Got}
use Rattle.sq_channel.specs.declared.replies.Got.TheVariants as got
use Rattle.sq_calls.specs.declared.faults.DeskFault.{DeskFault}
use Rattle.sq_calls.specs.declared.faults.DeskFault.TheVariants as fault
use Rattle.sq_calls.specs.Legality.{Beginning}
use Rattle.sq_calls.specs.Telling.{CountsLine, CountsRefusal, IsDead, IsLine, Notes, Refuses, got_told, reports_stop}
use Rattle.sq_keeper.specs.declared.desk.LineEnd.{LineEnd}
use Rattle.sq_keeper.specs.declared.desk.LineEnd.TheVariants as end
use Rattle.sq_machine.specs.Entries.{History}
use Rattle.sq_machine.specs.declared.entries.Event.TheVariants as event
use Rattle.sq_machine.specs.declared.entries.Told.TheVariants as told

-- no more lines are wanted exactly after a line that was bad or stray, a refusal, and a note that
-- failed or would have come after one
abbrev pub line_end : Result Got DeskFault → LineEnd
line_end (Ok (got.Reply question reply)) = end.Go
line_end (Ok got.Bad) = end.End
line_end (Ok got.Stray) = end.End
line_end (Err fault.WantOfMemory) = end.WantOfMemory
line_end (Err f) = end.End

-- what is seen of a desk round a call: with what it began, where that is told, the journal before
-- and behind, where it is told, how often it had refused before and behind, and whether the call
-- reported that it has stopped
pub record DeskStep : Type 0 where
  pub first : Option Beginning
  pub told_before : Option History
  pub told_now : Option History
  pub refused_before : ℕ
  pub refused_now : ℕ
  pub stopped : Bool

abbrev pub desk_step : Option Beginning → Option History → Option History → ℕ → ℕ → Bool → DeskStep
desk_step first told_before told_now refused_before refused_now stopped = record {
  first = first;
  told_before = told_before;
  told_now = told_now;
  refused_before = refused_before;
  refused_now = refused_now;
  stopped = stopped;
}

-- The desk was handed this line of this process at this moment, and what it gave is answered so.
-- Where it refused it, the machine refuses this very event.
abbrev pub HandsLine : DeskStep → ℕ → List ℕ → LineEnd → ℕ → Type 0
HandsLine desk proc bytes result moment =
    (gave : Result Got DeskFault)
    × Notes desk.first moment got_told (IsLine proc bytes) desk.told_before desk.told_now gave
    × Refuses desk.first moment (event.Line proc bytes) desk.told_before gave
    × CountsLine desk.refused_before desk.refused_now gave × (desk.stopped ≡ reports_stop gave)
    × (result ≡ line_end gave)

-- The desk was told of this death at this moment, and noted it, or reported that it has stopped or
-- that its journal failed, or the machine refuses this very event.
abbrev pub HandsDeath : DeskStep → ℕ → ℕ → Type 0
HandsDeath desk proc moment =
    (gave : Result (Unit {0}) DeskFault)
    × Notes desk.first moment (λ _. told.Fine) (IsDead proc) desk.told_before desk.told_now gave
    × Refuses desk.first moment (event.Died proc) desk.told_before gave
    × CountsRefusal desk.refused_before desk.refused_now gave
    × (desk.stopped ≡ reports_stop gave) × (IsErrOf gave fault.WantOfMemory → ⊥)
