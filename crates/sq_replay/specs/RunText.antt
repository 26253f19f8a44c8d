-- In the statement: docs/STATEMENT.md lists which definitions.
-- What a run of a script over a configuration comes to: its history, whose lines are written, and
-- its end.
use Rattle.std.specs.Prelude.{ℕ, ◌+◌, ℤ, List, [], ◌∷◌, length, Result, Ok, Err, Some, None, is_some, max, pos, zero, suc, if◌then◌else◌}
use Rattle.std.specs.declared.option.Option.{Option}
use Rattle.sq_base.specs.declared.requests.Field.{Field}
use Rattle.sq_outside.specs.SourceLines.{SourceLine, is_readable}
use Rattle.sq_request.specs.Written.{made_request}
use Rattle.sq_machine.specs.declared.entries.Event.{Event}
use Rattle.sq_machine.specs.declared.entries.Event.TheVariants.{Begin, Ask, Act, Reconfigure}
use Rattle.sq_machine.specs.declared.entries.Told.TheVariants as told
use Rattle.sq_rules.specs.ConfText.{conf_result}
use Rattle.sq_rules.specs.declared.kinds.ConfError.{ConfError}
use Rattle.sq_rules.specs.Configurations.{Configuration}
use Rattle.sq_machine.specs.Entries.{History, entry_at}
use Rattle.sq_machine.specs.Machine.{next}
use Rattle.sq_machine.specs.Next.{Next, gives}
use Rattle.sq_machine.specs.Marking.{marked}
use Rattle.sq_machine.specs.Readings.{current, latest}
use Rattle.sq_journal.specs.Lines.{spaced_words}
use Rattle.sq_journal.specs.Reading.{dated_of}
use Rattle.sq_replay.specs.declared.ends.RunEnd.{RunEnd}
use Rattle.sq_replay.specs.declared.ends.RunEnd.TheVariants as ends
use Rattle.sq_replay.specs.Dues.{dues}

-- a history, the newest entry first, and how the run ends
pub record ScriptRun : Type 0 where
  pub history : History
  pub end : RunEnd

-- a run that ends before the machine begins
abbrev pub stopped : RunEnd → ScriptRun
stopped end = record { history = []; end = end }

-- the text that a name has where its file is opened in an epoch, if there is such a file; in an
-- epoch one file is opened at most
abbrev pub Shelf : Type 0
Shelf = ℕ → List ℕ → Option (List ℕ)

-- the moment and the event that a script's line states
abbrev pub stated : List ℕ → Option (ℕ × Event)
stated bytes = dated_of (spaced_words bytes)

-- the history goes on with an act where one is due
abbrev pub acted : (History → History) → History → Next → History
acted go h (gives answer) = go (entry_at (latest h) Act answer ∷ h)
acted go h n = h

-- the history with the acts that are due, up to so many
abbrev pub acts_upto : List Configuration → ℕ → History → History
acts_upto configs zero h = h
acts_upto configs (suc k) h = acted (acts_upto configs k) h
    (next configs (marked configs h) (latest h) Act)

-- the history with the acts that are due, up to none
abbrev pub acts : List Configuration → History → History
acts configs h = acts_upto configs (dues configs h) h

-- an answer is an entry, and the acts follow that are due then; without one the run ends at this
-- line
abbrev pub answered : List Configuration → History → ℕ → ℕ → Event → Next → Result History RunEnd
answered configs h number moment event (gives answer) = Ok
    (acts configs (entry_at moment event answer ∷ h))
answered configs h number moment event n = Err (ends.Script number)

-- the event of line `number`, at the greatest moment so far
abbrev pub asked_next : List Configuration → History → ℕ → ℕ → Event → Result History RunEnd
asked_next configs h number now event =
    answered configs h number (max now (latest h)) event
    (next configs (marked configs h) (max now (latest h)) event)

-- requests of a script have version 1.1
abbrev pub is_request : List ℕ → List ℕ → List Field → Result History RunEnd → ℕ
    → Result History RunEnd
is_request method target fields step number = if is_some
    (made_request method target 1 fields) then step else Err (ends.Script number)

-- a fault of a configuration's text ends the run
abbrev pub accepted : Result Configuration ConfError → Result History RunEnd → Result History RunEnd
accepted (Ok config) step = step
accepted (Err e) step = Err (ends.Config e)

-- a reconfiguration by the file of this name, where it has this text: the entry holds the text
abbrev pub reconfigured : List Configuration → History → ℕ → ℕ → List ℕ → Option (List ℕ)
    → Result History RunEnd
reconfigured configs h number now name None = Err (ends.Missing name)
reconfigured configs h number now name (Some text) = accepted (conf_result text)
    (asked_next configs h number now (Reconfigure text))

-- the event of a line of the script, behind the first: `begin` may stand in the first alone, and
-- `act` in none
abbrev pub event_step : Shelf → List Configuration → History → ℕ → ℕ → Event → Result History RunEnd
event_step files configs h number now (Begin offset) = Err (ends.Script number)
event_step files configs h number now Act = Err (ends.Script number)
event_step files configs h number now (Ask conn method target fields) =
    is_request method target fields
    (asked_next configs h number now (Ask conn method target fields)) number
event_step files configs h number now (Reconfigure name) = reconfigured configs h number now name
    (files (current h) name)
event_step files configs h number now event = asked_next configs h number now event

-- the history after the event that a line states; a line that states none is a fault
abbrev pub stated_step : Shelf → List Configuration → History → ℕ → Option (ℕ × Event)
    → Result History RunEnd
stated_step files configs h number None = Err (ends.Script number)
stated_step files configs h number (Some (now, event)) = event_step files configs h number now event

-- line `number` of the script, which begins behind `place` bytes
abbrev pub line_step : Shelf → List Configuration → History → ℕ → ℕ → SourceLine
    → Result History RunEnd
line_step files configs h number place l =
    if is_readable place l then stated_step files configs h number (stated l.bytes)
    else Err (ends.Script number)

-- the run that goes on from a history, or has ended there
abbrev pub run_on : History → Result History RunEnd → (History → ScriptRun) → ScriptRun
run_on h (Ok t) go = go t
run_on h (Err end) go = record { history = h; end = end }

-- the run of these lines, from a number and a place on
abbrev pub run_lines : Shelf → List Configuration → History → ℕ → ℕ → List SourceLine → ScriptRun
run_lines files configs h number place [] = record { history = h; end = ends.Ok }
run_lines files configs h number place (l ∷ ls) =
    run_on h (line_step files configs h number place l)
    (λ t. run_lines files configs t (number + 1) (place + length l.bytes + 1) ls)

-- the entry by which the machine begins
abbrev pub first_history : ℕ → ℤ → History
first_history now offset = entry_at now (Begin offset) (told.Epoch 1) ∷ []

-- the machine has begun, and the acts followed that are due then
abbrev pub begun_history : List Configuration → ℕ → ℤ → History
begun_history configs now offset = acts configs (first_history now offset)

-- the first line is run by a machine that began at its moment, with offset 0
abbrev pub run_from : Shelf → List Configuration → ℕ → List SourceLine → ℕ → Event → ScriptRun
run_from files configs place ls now event =
    run_on (begun_history configs now (pos 0))
    (event_step files configs (begun_history configs now (pos 0)) 1 now event)
    (λ t. run_lines files configs t 2 place ls)

-- the first line may say where the machine begins, and `act` is no line of a script
abbrev pub run_first : Shelf → List Configuration → ℕ → List SourceLine → ℕ → Event → ScriptRun
run_first files configs place ls now (Begin offset) = run_lines files configs
    (begun_history configs now offset) 2 place ls
run_first files configs place ls now Act = stopped (ends.Script 1)
run_first files configs place ls now event = run_from files configs place ls now event

-- the run whose first line states this event; a line that states none is a fault
abbrev pub run_stated : Shelf → List Configuration → ℕ → List SourceLine → Option (ℕ × Event)
    → ScriptRun
run_stated files configs place ls None = stopped (ends.Script 1)
run_stated files configs place ls (Some (now, event)) = run_first files configs place ls now event

-- the run of a script's lines over the configurations of its epochs; without lines the machine
-- begins at 0
abbrev pub run_over : Shelf → List Configuration → List SourceLine → ScriptRun
run_over files configs [] = record { history = begun_history configs 0 (pos 0); end = ends.Ok }
run_over files configs (l ∷ ls) =
    if is_readable 0 l then run_stated files configs (length l.bytes + 1) ls (stated l.bytes)
    else stopped (ends.Script 1)

-- a configuration that a text gives, and those that follow; none where the text gives none
abbrev pub with_config : Result Configuration ConfError → List Configuration → List Configuration
with_config (Ok config) more = config ∷ more
with_config (Err e) more = []

-- the configurations, with that of a file's text in front, if there is a file
abbrev pub with_text : Option (List ℕ) → List Configuration → List Configuration
with_text None more = []
with_text (Some text) more = with_config (conf_result text) more

-- the configurations with the one in front that an event names
abbrev pub named_by : Shelf → Event → (ℕ → List Configuration) → ℕ → List Configuration
named_by files (Reconfigure name) more e = with_text (files e name) (more (suc e))
named_by files event more e = more e

-- the configurations with the one in front that a line names
abbrev pub named_in : Shelf → Option (ℕ × Event) → (ℕ → List Configuration) → ℕ → List Configuration
named_in files None more e = more e
named_in files (Some (now, event)) more e = named_by files event more e

-- the configurations that the lines of a script name, in order, where its first line is run in this
-- epoch; the run ends where a file gives none
abbrev pub named_from : Shelf → List SourceLine → ℕ → List Configuration
named_from files [] e = []
named_from files (l ∷ ls) e = named_in files (stated l.bytes) (named_from files ls) e

-- the configurations of a script's epochs: the one that it begins with, and those that it names
abbrev pub configs_of : Shelf → Configuration → List SourceLine → List Configuration
configs_of files config ls = config ∷ named_from files ls 1

-- the run of a script's lines
abbrev pub run_script : Shelf → Configuration → List SourceLine → ScriptRun
run_script files config ls = run_over files (configs_of files config ls) ls
