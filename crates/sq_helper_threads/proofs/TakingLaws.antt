-- What a call of the desk reports of whether it has stopped, and what it refuses.
use Rattle.std.proofs.Common.{◌≡◌, ◌∙◌, ℕ, Bool, true, false, Result, Ok, Err, sym, subst}
use Rattle.std.specs.declared.option.Option.{Option}
use Rattle.std.proofs.lemmas.Bool.{false≢true}
use Rattle.sq_calls.specs.Legality.{Beginning}
use Rattle.sq_calls.specs.Telling.{RefusesAt, reports_stop}
use Rattle.sq_calls.specs.declared.faults.DeskFault.{DeskFault}
use Rattle.sq_calls.specs.declared.faults.DeskFault.TheVariants as fault
use Rattle.sq_machine.specs.Entries.{History}
use Rattle.sq_machine.specs.declared.entries.Event.TheVariants as event
use Rattle.sq_machine.specs.declared.refusals.Refusal.{Refusal}
use Rattle.sq_helper_threads.specs.Turning.{TellsStop}

pub tells_stop : {A : Type 0} (before now : Bool) (r : Result A DeskFault) → now ≡ reports_stop r
    → TellsStop before now r
tells_stop before now (Ok a) e = e
tells_stop before now (Err fault.Stopped) e = e
tells_stop before now (Err (fault.Engine r)) e = e
tells_stop before now (Err fault.JournalFault) e = e
tells_stop before now (Err fault.WantOfMemory) e = λ is. absurd (false≢true (sym e ∙ is))

-- what the machine refuses, where the desk's fault is known
pub refused_engine : (first began : Option Beginning) (now epoch class : ℕ) (told noted : Option History)
    (f : DeskFault) (why : Refusal) → first ≡ began → told ≡ noted → f ≡ fault.Engine why
    → RefusesAt {A = ℕ} first now (λ name. event.Started epoch name) epoch class told (Err f)
    → RefusesAt {A = ℕ} began now (λ name. event.Started epoch name) epoch class noted (Err (fault.Engine why))
refused_engine first began now epoch class told noted f why begins notes is refuses =
    subst (λ b. RefusesAt {A = ℕ} b now (λ name. event.Started epoch name) epoch class noted (Err (fault.Engine why)))
    begins
    (subst (λ h. RefusesAt {A = ℕ} first now (λ name. event.Started epoch name) epoch class h (Err (fault.Engine why)))
    notes
    (subst (λ x. RefusesAt {A = ℕ} first now (λ name. event.Started epoch name) epoch class told (Err x)) is refuses))
