-- In the statement: docs/STATEMENT.md lists which definitions.
-- What was written of a command's text, and what of it a page still holds.
use Rattle.std.specs.Prelude.{◌≡◌, ◌⊎◌, ℕ, ◌≤◌, List, ◌++◌, Bool, true, false}
use Rattle.std.specs.declared.option.Option.{Option}
use Rattle.std.specs.Io.KnownBytes.{Appends}
use Rattle.sq_outside.specs.Causes.{Rose}
use Rattle.sq_outside.specs.Output.{Grew, IsPrefix, IsProperPrefix, IsWritten}
use Rattle.sq_replay.specs.Ends.{End, Done, Refused, Faulted, Fault, Reading, Writing, Lacking}
use Rattle.sq_replay.specs.Runs.{EndsLine, WrotePart}
use Rattle.sq_commands.specs.declared.ends.Status.{Status}
use Rattle.sq_commands.specs.declared.ends.Status.TheVariants as ends
use Rattle.sq_commands.specs.Commands.{Output}
use Rattle.sq_commands.specs.Ends.{end_of, status_of, last_line}

-- whole lines of a text, or any front of it where the sink's count rose
abbrev pub IsLines : ℕ → ℕ → List ℕ → List ℕ → Type 0
IsLines before now text part = IsPrefix part text × (EndsLine part ⊎ Rose before now)

-- what was written since `base` of a text that a fault cut off; the numbers are the sink's count
-- before and after: before a read fault all that was gathered, which is whole lines, unless writing
-- that failed
abbrev pub Remains : Fault → Option (List ℕ) → Option (List ℕ) → ℕ → ℕ → List ℕ → Type 0
Remains Reading base contents before now text = Grew base contents (IsLines before now text)
Remains Lacking base contents before now text = Grew base contents (λ part. IsPrefix part text)
Remains Writing base contents before now text = WrotePart base contents text

abbrev pub DeliversAs : End → Option (List ℕ) → Option (List ℕ) → ℕ → ℕ → Output → Status → Type 0
DeliversAs (Faulted fault) base contents before now output end =
    Remains fault base contents before now output.text
DeliversAs Done base contents before now output end = (end ≡ output.end)
    × Appends base contents output.text
DeliversAs Refused base contents before now output end = (end ≡ output.end)
    × Appends base contents output.text

-- The command's text was written and it ended so; or a fault ended it before, and a front was
-- written.
abbrev pub Delivers : Option (List ℕ) → Option (List ℕ) → ℕ → ℕ → Output → Status → Type 0
Delivers base contents before now output end = DeliversAs (end_of end) base contents before now
    output end

-- A text, and then the last line; or a front of that line, where the sink's count rose between the
-- two numbers.
abbrev pub EndsWith : List ℕ → ℕ → ℕ → Status → List ℕ → Type 0
EndsWith text before now end bytes = (part : List ℕ) × (bytes ≡ text ++ part)
    × IsWritten before now (last_line end) part

-- what was written where a fault ended the command: before a read fault what was gathered, whole
-- lines unless writing them failed, and then its last line, which is cut short only where a write
-- failed after them
abbrev pub IsCutOff : Fault → List ℕ → ℕ → ℕ → List ℕ → Type 0
IsCutOff Reading text before now bytes =
    (front : List ℕ) × (mid : ℕ) × (before ≤ mid) × IsLines before mid text front
    × EndsWith front mid now ends.ReadFault bytes
IsCutOff Lacking text before now bytes = IsPrefix bytes text
IsCutOff Writing text before now bytes = IsProperPrefix bytes text

-- the bytes written are the output's, as this end leaves them
abbrev pub IsOutputAs : End → Output → ℕ → ℕ → Status → List ℕ → Type 0
IsOutputAs Done output before now end bytes = bytes ≡ output.text
IsOutputAs Refused output before now end bytes = EndsWith output.text before now end bytes
IsOutputAs (Faulted fault) output before now end bytes = IsCutOff fault output.text before now bytes

-- the bytes that a command which ends so wrote; the two numbers are the sink's count before and
-- after the whole call
abbrev pub IsOutput : Output → ℕ → ℕ → Status → List ℕ → Type 0
IsOutput output before now end bytes = IsOutputAs (end_of end) output before now end bytes

-- a run that ended so ends a command so, or by a fault of writing
abbrev pub IsSettled : Status → Status → Type 0
IsSettled end result = (result ≡ end) ⊎ (result ≡ ends.WriteFault)

abbrev pub is_write_end : End → Bool
is_write_end Done = false
is_write_end Refused = false
is_write_end (Faulted Reading) = false
is_write_end (Faulted Writing) = true
is_write_end (Faulted Lacking) = false

abbrev pub is_write_fault : Status → Bool
is_write_fault end = is_write_end (end_of end)

abbrev pub failed_as : End → Status
failed_as Done = ends.WriteFault
failed_as Refused = ends.WriteFault
failed_as (Faulted fault) = status_of fault

-- how a run ends whose last page could not be written: a fault that ended it stays, and any other
-- end becomes a write fault
abbrev pub failed_end : Status → Status
failed_end end = failed_as (end_of end)
