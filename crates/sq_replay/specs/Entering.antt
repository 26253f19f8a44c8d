-- Entries whose lines are written, and files that a reconfiguration names.
use Rattle.std.specs.Prelude.{◌≡◌, ℕ, ℤ, ◌≤◌, List, Result, Ok, Err, Some, None, IsErrOf}
use Rattle.std.specs.declared.option.Option.{Option}
use Rattle.sq_outside.specs.Causes.{Rose}
use Rattle.sq_machine.specs.declared.entries.Event.{Event}
use Rattle.sq_machine.specs.declared.entries.Event.TheVariants.{Act, Begin, Reconfigure}
use Rattle.sq_rules.specs.ConfText.{conf_result}
use Rattle.sq_rules.specs.declared.kinds.ConfError.{ConfError}
use Rattle.sq_rules.specs.Configurations.{Configuration}
use Rattle.sq_machine.specs.Entries.{History}
use Rattle.sq_journal.specs.EntryText.{written}
use Rattle.sq_replay.specs.declared.beginning.FirstEvent.{FirstEvent}
use Rattle.sq_replay.specs.declared.beginning.FirstEvent.TheVariants as first
use Rattle.sq_replay.specs.declared.ends.RunEnd.{RunEnd}
use Rattle.sq_replay.specs.declared.ends.RunEnd.TheVariants as ends
use Rattle.sq_replay.specs.declared.page.Unwritten.{Unwritten}
use Rattle.sq_replay.specs.declared.page.Unwritten.TheVariants as untold
use Rattle.sq_replay.specs.Ends.{end_of}
use Rattle.sq_replay.specs.MachineViews.{MachineView, machine_of}
use Rattle.sq_replay.specs.RunText.{begun_history}
use Rattle.sq_replay.specs.Runs.{At, BeginsAs, ScriptView, WroteFront, WrotePart}

-- the lines up to this history were put on the page, and the machine stands for it; or a part of
-- them
abbrev pub Arrives : ScriptView → Option (List ℕ) → Option (List ℕ) → List ℕ → List Configuration
    → History → Result (Unit {0}) Unwritten → Type 0
Arrives v base contents page configs t (Ok done) = At v base contents page configs t
Arrives v base contents page configs t (Err untold.Failed) = WrotePart base contents (written t)
Arrives v base contents page configs t (Err untold.WantOfMemory) =
    WroteFront base contents page (written t)

-- what was read of a file of this name, where this is its text, if it is there
abbrev pub NamedReads : List ℕ → Option (List ℕ) → Result (List ℕ × Configuration) RunEnd → Type 0
NamedReads name o (Ok (text, config)) = (o ≡ Some text) × (conf_result text ≡ Ok config)
NamedReads name o (Err (ends.Missing n)) = (n ≡ name) × (o ≡ None)
NamedReads name o (Err (ends.Config e)) = (text : List ℕ) × (o ≡ Some text)
    × (conf_result text ≡ Err e)
NamedReads name o (Err ends.ReadFault) = Unit {0}
NamedReads name o (Err ends.WantOfMemory) = Unit {0}
NamedReads name o (Err end) = ⊥

-- the file's name where an event is a reconfiguration, and any other event
abbrev pub named_of : Event → Result (List ℕ) Event
named_of (Reconfigure name) = Ok name
named_of event = Err event

-- what was judged of a text that reads so
abbrev pub Judges : Result Configuration ConfError → Result Configuration RunEnd → Type 0
Judges read (Ok config) = read ≡ Ok config
Judges read (Err (ends.Config e)) = read ≡ Err e
Judges read (Err ends.WantOfMemory) = Unit {0}
Judges read (Err end) = ⊥

-- a text that is no configuration ends a run by these alone
abbrev pub IsJudgeEnd : RunEnd → Type 0
IsJudgeEnd (ends.Config e) = Unit {0}
IsJudgeEnd ends.WantOfMemory = Unit {0}
IsJudgeEnd end = ⊥

-- so does an event that names no file, in the line with this number
abbrev pub IsPlainEnd : ℕ → RunEnd → Type 0
IsPlainEnd number (ends.Script line) = line ≡ number
IsPlainEnd number ends.WriteFault = Unit {0}
IsPlainEnd number ends.WantOfMemory = Unit {0}
IsPlainEnd number end = ⊥

-- so does the beginning
abbrev pub IsBeginEnd : RunEnd → Type 0
IsBeginEnd ends.WriteFault = Unit {0}
IsBeginEnd ends.WantOfMemory = Unit {0}
IsBeginEnd end = ⊥

-- so does a script without a line, or it is done
abbrev pub IsEmptyEnd : RunEnd → Type 0
IsEmptyEnd ends.Ok = Unit {0}
IsEmptyEnd ends.WriteFault = Unit {0}
IsEmptyEnd ends.WantOfMemory = Unit {0}
IsEmptyEnd end = ⊥

-- so does a file of which none is had
abbrev pub IsNamingEnd : RunEnd → Type 0
IsNamingEnd (ends.Config e) = Unit {0}
IsNamingEnd (ends.Missing name) = Unit {0}
IsNamingEnd ends.ReadFault = Unit {0}
IsNamingEnd ends.WantOfMemory = Unit {0}
IsNamingEnd end = ⊥

-- P holds of the file that is missed
abbrev pub IfMissed : Option (List ℕ) → (List ℕ → Type 0) → Type 0
IfMissed None P = Unit {0}
IfMissed (Some name) P = P name

-- the count of the files never falls; it rose where a read fault came, and stayed where none did
pub record NamingHasCauses {A : Type 0} (files_before files_now : ℕ)
    (result : Result A RunEnd) : Type 0 where
  pub files_later : files_before ≤ files_now
  pub read : IsErrOf result ends.ReadFault → Rose files_before files_now
  pub files_quiet : (IsErrOf result ends.ReadFault → ⊥) → files_now ≡ files_before

-- the counts of the files and of the sink never fall; each rose where its fault came, and stayed
-- where none did
pub record StepHasCauses {A : Type 0} (files_before files_now out_before out_now : ℕ)
    (result : Result A RunEnd) : Type 0 where
  pub files_later : files_before ≤ files_now
  pub out_later : out_before ≤ out_now
  pub read : IsErrOf result ends.ReadFault → Rose files_before files_now
  pub write : IsErrOf result ends.WriteFault → Rose out_before out_now
  pub files_quiet : (IsErrOf result ends.ReadFault → ⊥) → files_now ≡ files_before
  pub out_quiet : (IsErrOf result ends.WriteFault → ⊥) → out_now ≡ out_before

-- the machine has begun, and the acts were made that are due then; or a fault came first
abbrev pub Begins : Option (List ℕ) → Option (List ℕ) → List ℕ → List Configuration → ℕ → ℤ
    → Result MachineView RunEnd → Type 0
Begins base contents page configs now offset (Ok v) = At (machine_of v) base contents page configs
    (begun_history configs now offset)
Begins base contents page configs now offset (Err end) = BeginsAs (end_of end) base contents page
    (written (begun_history configs now offset))

-- what an event is in the first line
abbrev pub first_kind : Event → FirstEvent
first_kind (Begin offset) = first.Begin offset
first_kind Act = first.Act
first_kind event = first.Other
