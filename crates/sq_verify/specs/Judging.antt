-- In the statement: docs/STATEMENT.md lists which definitions.
-- What a journal comes to: each line, one after another, against the line that the machine has for
-- its event. The journal is verified where each is the machine's and there is one; else it ends at
-- the first line that is not.
use Rattle.std.specs.Prelude.{ℕ, ◌+◌, List, [], ◌∷◌, length, max, Bool, true, if◌then◌else◌, bytes_eq, is_some, Result, Ok, Err, Some, None}
use Rattle.std.specs.declared.option.Option.{Option}
use Rattle.sq_outside.specs.SourceLines.{SourceLine, is_within}
use Rattle.sq_request.specs.Written.{made_request}
use Rattle.sq_machine.specs.declared.entries.Event.{Event}
use Rattle.sq_machine.specs.declared.entries.Event.TheVariants.{Begin, Ask, Reconfigure}
use Rattle.sq_machine.specs.declared.entries.Told.TheVariants as told
use Rattle.sq_rules.specs.ConfText.{conf_result}
use Rattle.sq_rules.specs.declared.kinds.ConfError.{ConfError}
use Rattle.sq_rules.specs.Configurations.{Configuration}
use Rattle.sq_machine.specs.Entries.{History, Noted, entry_at}
use Rattle.sq_machine.specs.Machine.{next}
use Rattle.sq_machine.specs.Next.{Next, gives}
use Rattle.sq_machine.specs.Marking.{marked}
use Rattle.sq_machine.specs.Readings.{latest}
use Rattle.sq_replay.specs.RunText.{with_config}
use Rattle.sq_verify.specs.declared.findings.Finding.{Finding}
use Rattle.sq_verify.specs.declared.findings.Finding.TheVariants as finding
use Rattle.sq_verify.specs.declared.halts.Halt.{Halt}
use Rattle.sq_verify.specs.declared.halts.Halt.TheVariants as halt
use Rattle.sq_verify.specs.declared.versions.Version.{Version}
use Rattle.sq_verify.specs.declared.versions.Version.TheVariants as version
use Rattle.sq_verify.specs.JournalLines.{is_version_line, line_in, line_limit, noted_in}

-- one line

-- the history goes on with the machine's entry, where the line is its text
abbrev pub compared : Version → History → List ℕ → Noted → Result History Halt
compared v h line e = if bytes_eq (line_in v h e) line then Ok (e ∷ h)
    else Err (halt.Differs (line_in v h e))

-- what the machine answers is compared; where it answers nothing the line is none
abbrev pub matched : Version → History → List ℕ → ℕ → Event → Next → Result History Halt
matched v h line moment event (gives answer) = compared v h line (entry_at moment event answer)
matched v h line moment event n = Err halt.NoLine

-- the event at its moment, or at the greatest so far
abbrev pub asked_line : Version → List Configuration → History → List ℕ → ℕ → Event
    → Result History Halt
asked_line v configs h line now event = matched v h line (max now (latest h)) event
    (next configs (marked configs h) (max now (latest h)) event)

-- a request has version 1.1
abbrev pub if_request : Bool → Result History Halt → Result History Halt
if_request made step = if made then step else Err halt.NoLine

-- a reconfiguration holds the text of its configuration
abbrev pub if_read : Result Configuration ConfError → Result History Halt → Result History Halt
if_read (Ok config) step = step
if_read (Err e) step = Err halt.NoLine

-- behind the first entry there is no `begin`
abbrev pub event_line : Version → List Configuration → History → List ℕ → ℕ → Event
    → Result History Halt
event_line v configs h line now (Begin offset) = Err halt.NoLine
event_line v configs h line now (Ask conn method target fields) =
    if_request (is_some (made_request method target 1 fields))
    (asked_line v configs h line now (Ask conn method target fields))
event_line v configs h line now (Reconfigure text) = if_read (conf_result text)
    (asked_line v configs h line now (Reconfigure text))
event_line v configs h line now event = asked_line v configs h line now event

-- the history after a line that states this entry; a line that states none ends it
abbrev pub stated_line : Version → List Configuration → History → List ℕ → Option Noted
    → Result History Halt
stated_line v configs h line None = Err halt.NoLine
stated_line v configs h line (Some e) = event_line v configs h line e.moment e.event

-- a line behind the first entry, which begins behind `place` bytes
abbrev pub later_line : Version → List Configuration → History → ℕ → SourceLine
    → Result History Halt
later_line v configs h place l = if is_within (line_limit v) place l then stated_line v configs h
    l.bytes (noted_in v l.bytes) else Err halt.NoLine

-- the first entry is `begin`
abbrev pub begun_line : Version → List ℕ → ℕ → Event → Result History Halt
begun_line v line now (Begin offset) = compared v [] line
    (entry_at now (Begin offset) (told.Epoch 1))
begun_line v line now event = Err halt.NoLine

-- the history after the first line of a journal
abbrev pub stated_first : Version → List ℕ → Option Noted → Result History Halt
stated_first v line None = Err halt.NoLine
stated_first v line (Some e) = begun_line v line e.moment e.event

-- the line of the first entry
abbrev pub first_line : Version → ℕ → SourceLine → Result History Halt
first_line v place l = if is_within (line_limit v) place l then stated_first v l.bytes
    (noted_in v l.bytes) else Err halt.NoLine

-- all lines

-- the entries that are the machine's, the newest first, and what was found
pub record Judged : Type 0 where
  pub history : History
  pub found : Finding

-- the number of the line behind so many entries
abbrev pub line_number : Version → ℕ → ℕ
line_number version.One count = count + 1
line_number version.Two count = count + 2

-- what is found where this line ends the journal, behind so many entries
abbrev pub found_at : Version → ℕ → List ℕ → Halt → Finding
found_at v count line halt.NoLine = finding.Script (line_number v count)
found_at v count line (halt.Differs text) = finding.Differs (line_number v count) text line
found_at v count line halt.WantOfMemory = finding.WantOfMemory

-- a line's entry is the machine's, or the line ends the journal
abbrev pub go_on : Version → History → List ℕ → Result History Halt → (History → Judged) → Judged
go_on v h line (Ok t) go = go t
go_on v h line (Err stop) go = record { history = h; found = found_at v (length h) line stop }

-- these lines behind a history, where so many bytes came before them
abbrev pub judged_lines : Version → List Configuration → History → ℕ → List SourceLine → Judged
judged_lines v configs h place [] = record { history = h; found = finding.Verified (length h) }
judged_lines v configs h place (l ∷ ls) =
    go_on v h l.bytes (later_line v configs h place l)
    (λ t. judged_lines v configs t (place + length l.bytes + 1) ls)

-- these, from the first entry on; without one the line is missing where it would stand
abbrev pub judged_first : Version → List Configuration → ℕ → List SourceLine → Judged
judged_first v configs place [] = record { history = []; found = found_at v 0 [] halt.NoLine }
judged_first v configs place (l ∷ ls) =
    go_on v [] l.bytes (first_line v place l)
    (λ t. judged_lines v configs t (place + length l.bytes + 1) ls)

-- configurations

-- behind these, the one that an event's text gives
abbrev pub named_by : Event → List Configuration → List Configuration
named_by (Reconfigure text) more = with_config (conf_result text) more
named_by event more = more

-- the configurations with the one in front that an entry names
abbrev pub named_in : Option Noted → List Configuration → List Configuration
named_in None more = more
named_in (Some e) more = named_by e.event more

-- the configurations that the lines of a journal hold, in order, up to a text that gives none
abbrev pub named_from : Version → List SourceLine → List Configuration
named_from v [] = []
named_from v (l ∷ ls) = named_in (noted_in v l.bytes) (named_from v ls)

-- those of a journal's epochs: the one that it begins with, and those that it holds
abbrev pub epochs_of : Version → Configuration → List SourceLine → List Configuration
epochs_of v config ls = config ∷ named_from v ls

-- a journal

-- behind the line of its first entry, which can be read
abbrev pub judged_behind : Version → Configuration → List ℕ → ℕ → List SourceLine → Judged
judged_behind v config line place ls =
    go_on v [] line (stated_first v line (noted_in v line))
    (λ t. judged_lines v (epochs_of v config (record { bytes = line; ended = true } ∷ ls)) t place
    ls)

-- of version 2, behind the line that tells it
abbrev pub judged_two : Configuration → SourceLine → List SourceLine → Judged
judged_two config l ls = judged_first version.Two (epochs_of version.Two config ls)
    (length l.bytes + 1) ls

-- what a journal of version 1 comes to
abbrev pub judged_one : Configuration → List SourceLine → Judged
judged_one config ls = judged_first version.One (epochs_of version.One config ls) 0 ls

-- what a journal comes to over the configuration that it begins with
abbrev pub judged : Configuration → List SourceLine → Judged
judged config [] = judged_one config []
judged config (l ∷ ls) = if is_version_line l then judged_two config l ls
    else judged_one config (l ∷ ls)
