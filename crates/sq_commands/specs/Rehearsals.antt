-- In the statement: docs/STATEMENT.md lists which definitions.
-- A rehearsal: the history that the driver and the machine make together, and what it came to.
use Rattle.std.specs.Prelude.{ℕ, ◌+◌, ◌*◌, pos, zero, suc, max, List, [], ◌∷◌, ◌++◌, if◌then◌else◌, is_some, Some, None, codes}
use Rattle.std.specs.declared.option.Option.{Option}
use Rattle.sq_request.specs.Written.{made_request}
use Rattle.sq_machine.specs.declared.entries.Event.{Event}
use Rattle.sq_machine.specs.declared.entries.Event.TheVariants.{Act, Ask}
use Rattle.sq_rules.specs.Configurations.{Configuration}
use Rattle.sq_machine.specs.Entries.{History, entry_at}
use Rattle.sq_machine.specs.Machine.{next}
use Rattle.sq_machine.specs.Next.{Next, gives, nothing}
use Rattle.sq_machine.specs.Marking.{marked}
use Rattle.sq_machine.specs.Readings.{latest}
use Rattle.sq_replay.specs.RunText.{first_history}
use Rattle.sq_commands.specs.declared.drivers.Driver.{Driver}
use Rattle.sq_commands.specs.declared.summaries.Summary.{Summary}
use Rattle.sq_commands.specs.Driving.{answered, event_of, first_driver, is_acting, moment_of, passed}
use Rattle.sq_commands.specs.Going.{acted}
use Rattle.sq_commands.specs.Summaries.{counted}

-- a text with its line end
abbrev pub line : List ℕ → List ℕ
line text = text ++ 10 ∷ []

-- the configuration that is rehearsed
unfoldable pub configuration_text : List ℕ
configuration_text =
    line
    (codes
    "external_acl_type v ttl=5 negative_ttl=2 grace=50 children-max=2 concurrency=4 %>rd /bin/h")
    ++ line (codes "acl lan src 10.0.0.0/8")
    ++ line (codes "acl odd external v")
    ++ line (codes "acl web port 80")
    ++ line (codes "http_access deny !web")
    ++ line (codes "http_access allow lan odd")

-- the machine's next answer to an event, at the greatest moment so far; requests have version 1.1
abbrev pub answer_to : List Configuration → History → ℕ → Event → Next
answer_to configs h now (Ask conn method target fields) =
    if is_some (made_request method target 1 fields) then next configs (marked configs h)
    (max now (latest h)) (Ask conn method target fields) else nothing
answer_to configs h now event = next configs (marked configs h) (max now (latest h)) event

-- the history goes on with an event's entry, and the driver by the answer; an event that is refused
-- is left out
abbrev pub made_on : (Driver → History → History) → Driver → History → Event → Next → History
made_on go d h event (gives told) = go (answered told d)
    (entry_at (max (moment_of d) (latest h)) event told ∷ h)
made_on go d h event n = go (passed d) h

-- the history goes on with the act that is due; where none is, the driver goes on
abbrev pub acted_on : (Driver → History → History) → Driver → History → Next → History
acted_on go d h (gives told) = go (answered told d)
    (entry_at (max (moment_of d) (latest h)) Act told ∷ h)
acted_on go d h n = go (acted d) h

-- a turn of a driver that wants this event, if any
abbrev pub turned : (Driver → History → History) → List Configuration → Driver → History
    → Option Event → History
turned go configs d h None = h
turned go configs d h (Some event) = made_on go d h event (answer_to configs h (moment_of d) event)

-- the history that comes of this one by so many turns at most
abbrev pub drive : List Configuration → ℕ → Driver → History → History
drive configs zero d h = h
drive configs (suc k) d h =
    if is_acting d.stage then acted_on (drive configs k) d h
    (next configs (marked configs h) (max (moment_of d) (latest h)) Act)
    else turned (drive configs k) configs d h (event_of d)

-- so many turns a rehearsal has at most: more than its requests can take
abbrev pub turn_limit : ℕ → ℕ
turn_limit count = 32 * count + 32

-- the history of a rehearsal of so many requests over a configuration, from moment 0 and offset 0
-- on
abbrev pub rehearsed : Configuration → ℕ → History
rehearsed config count = drive (config ∷ []) (turn_limit count) (first_driver count)
    (first_history 0 (pos 0))

-- what it came to
unfoldable pub rehearsal : Configuration → ℕ → Summary
rehearsal config count = counted (rehearsed config count)
