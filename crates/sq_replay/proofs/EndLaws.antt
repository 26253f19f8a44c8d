-- How a run of a script may end.
use Rattle.std.proofs.Common.{ℕ, ◌+◌, List, [], ◌∷◌, length, Bool, true, false, if◌then◌else◌, max, Some, None, Ok, Err, Result, is_some, pos}
use Rattle.std.specs.declared.option.Option.{Option}
use Rattle.sq_outside.specs.SourceLines.{SourceLine, is_readable}
use Rattle.sq_request.specs.Written.{made_request}
use Rattle.sq_machine.specs.declared.entries.Event.{Event}
use Rattle.sq_machine.specs.declared.entries.Event.TheVariants.{Begin, Ask, Act, Reconfigure}
use Rattle.sq_rules.specs.ConfText.{conf_result}
use Rattle.sq_rules.specs.declared.kinds.ConfError.{ConfError}
use Rattle.sq_rules.specs.Configurations.{Configuration}
use Rattle.sq_machine.specs.Entries.{History}
use Rattle.sq_machine.specs.Machine.{next}
use Rattle.sq_machine.specs.Next.{Next, gives, nothing, refuses}
use Rattle.sq_machine.specs.Marking.{marked}
use Rattle.sq_machine.specs.Readings.{current, latest}
use Rattle.sq_replay.specs.declared.ends.RunEnd.{RunEnd}
use Rattle.sq_replay.specs.declared.ends.RunEnd.TheVariants as ends
use Rattle.sq_replay.specs.Ends.{IsScriptEnd}
use Rattle.sq_replay.specs.RunText.{ScriptRun, Shelf, accepted, answered, asked_next, begun_history, configs_of, event_step, line_step, reconfigured, run_first, run_from, run_lines, run_on, run_over, run_script, run_stated, stated, stated_step, stopped}

-- a step that ends the run ends it so
abbrev pub StepEnds : Result History RunEnd → Type 0
StepEnds (Ok t) = Unit {0}
StepEnds (Err end) = IsScriptEnd end

answered_ends : (configs : List Configuration) (h : History) (number moment : ℕ) (event : Event) (n : Next)
    → StepEnds (answered configs h number moment event n)
answered_ends configs h number moment event (gives answer) = tt
answered_ends configs h number moment event (refuses r) = tt
answered_ends configs h number moment event nothing = tt

asked_ends : (configs : List Configuration) (h : History) (number now : ℕ) (event : Event)
    → StepEnds (asked_next configs h number now event)
asked_ends configs h number now event = answered_ends configs h number (max now (latest h)) event
    (next configs (marked configs h) (max now (latest h)) event)

if_ends : (b : Bool) (step : Result History RunEnd) (number : ℕ) → StepEnds step
    → StepEnds (if b then step else Err (ends.Script number))
if_ends true step number s = s
if_ends false step number s = tt

accepted_ends : (read : Result Configuration ConfError) (step : Result History RunEnd) → StepEnds step
    → StepEnds (accepted read step)
accepted_ends (Ok config) step s = s
accepted_ends (Err e) step s = tt

reconfigured_ends : (configs : List Configuration) (h : History) (number now : ℕ) (name : List ℕ) (o : Option (List ℕ))
    → StepEnds (reconfigured configs h number now name o)
reconfigured_ends configs h number now name None = tt
reconfigured_ends configs h number now name (Some text) = accepted_ends (conf_result text)
    (asked_next configs h number now (Reconfigure text)) (asked_ends configs h number now (Reconfigure text))

-- the event of a line
pub event_ends : (files : Shelf) (configs : List Configuration) (h : History) (number now : ℕ) (event : Event)
    → StepEnds (event_step files configs h number now event)
event_ends files configs h number now (Begin offset) = tt
event_ends files configs h number now Act = tt
event_ends files configs h number now (Ask conn method target fields) =
    if_ends (is_some (made_request method target 1 fields))
    (asked_next configs h number now (Ask conn method target fields)) number
    (asked_ends configs h number now (Ask conn method target fields))
event_ends files configs h number now (Reconfigure name) = reconfigured_ends configs h number now name
    (files (current h) name)
event_ends files configs h number now event = asked_ends configs h number now event

stated_ends : (files : Shelf) (configs : List Configuration) (h : History) (number : ℕ) (o : Option (ℕ × Event))
    → StepEnds (stated_step files configs h number o)
stated_ends files configs h number None = tt
stated_ends files configs h number (Some (now, event)) = event_ends files configs h number now event

line_ends : (files : Shelf) (configs : List Configuration) (h : History) (number place : ℕ) (l : SourceLine)
    → StepEnds (line_step files configs h number place l)
line_ends files configs h number place l = if_ends (is_readable place l)
    (stated_step files configs h number (stated l.bytes)) number (stated_ends files configs h number (stated l.bytes))

on_ends : (h : History) (step : Result History RunEnd) (go : History → ScriptRun) → StepEnds step
    → ((t : History) → IsScriptEnd (go t).end) → IsScriptEnd (run_on h step go).end
on_ends h (Ok t) go s more = more t
on_ends h (Err end) go s more = s

-- the run of lines
pub lines_end : (files : Shelf) (configs : List Configuration) (h : History) (number place : ℕ) (ls : List SourceLine)
    → IsScriptEnd (run_lines files configs h number place ls).end
lines_end files configs h number place [] = tt
lines_end files configs h number place (l ∷ ls) =
    on_ends h (line_step files configs h number place l)
    (λ t. run_lines files configs t (number + 1) (place + length l.bytes + 1) ls)
    (line_ends files configs h number place l)
    (λ t. lines_end files configs t (number + 1) (place + length l.bytes + 1) ls)

from_ends : (files : Shelf) (configs : List Configuration) (place : ℕ) (ls : List SourceLine) (now : ℕ) (event : Event)
    → IsScriptEnd (run_from files configs place ls now event).end
from_ends files configs place ls now event =
    let h = begun_history configs now (pos 0) in
    on_ends h (event_step files configs h 1 now event) (λ t. run_lines files configs t 2 place ls)
    (event_ends files configs h 1 now event) (λ t. lines_end files configs t 2 place ls)

first_ends : (files : Shelf) (configs : List Configuration) (place : ℕ) (ls : List SourceLine) (now : ℕ) (event : Event)
    → IsScriptEnd (run_first files configs place ls now event).end
first_ends files configs place ls now (Begin offset) = lines_end files configs (begun_history configs now offset) 2
    place ls
first_ends files configs place ls now Act = tt
first_ends files configs place ls now event = from_ends files configs place ls now event

stated_run_ends : (files : Shelf) (configs : List Configuration) (place : ℕ) (ls : List SourceLine)
    (o : Option (ℕ × Event)) → IsScriptEnd (run_stated files configs place ls o).end
stated_run_ends files configs place ls None = tt
stated_run_ends files configs place ls (Some (now, event)) = first_ends files configs place ls now event

over_ends : (files : Shelf) (configs : List Configuration) (ls : List SourceLine)
    → IsScriptEnd (run_over files configs ls).end
over_ends files configs [] = tt
over_ends files configs (l ∷ ls) = by (is_readable 0 l)
    (stated_run_ends files configs (length l.bytes + 1) ls (stated l.bytes))
  where
    by : (b : Bool) → IsScriptEnd (run_stated files configs (length l.bytes + 1) ls (stated l.bytes)).end
        → IsScriptEnd (if b then run_stated files configs (length l.bytes + 1) ls (stated l.bytes)
        else stopped (ends.Script 1)).end
    by true e = e
    by false e = tt

-- a run ends as its script does: read to its end, refused at a line, or at a file that it names
pub run_ends : (files : Shelf) (config : Configuration) (ls : List SourceLine)
    → IsScriptEnd (run_script files config ls).end
run_ends files config ls = over_ends files (configs_of files config ls) ls
