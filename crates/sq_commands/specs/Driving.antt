-- In the statement: docs/STATEMENT.md lists which definitions.
-- The driver of a rehearsal: the event that it wants, and what the machine's answer makes of it.
use Rattle.std.specs.Prelude.{ℕ, ◌+◌, ◌*◌, [], ◌∷◌, ◌++◌, drop, slice_get, Bool, true, false, Some, None, codes}
use Rattle.std.specs.declared.option.Option.{Option}
use Rattle.sq_machine.specs.declared.entries.Event.{Event}
use Rattle.sq_machine.specs.declared.entries.Event.TheVariants as event
use Rattle.sq_machine.specs.declared.entries.Told.{Told}
use Rattle.sq_machine.specs.declared.entries.Told.TheVariants as told
use Rattle.sq_commands.specs.declared.drivers.Driver.{Driver}
use Rattle.sq_commands.specs.declared.rehearsal_stages.StepKind.{StepKind}
use Rattle.sq_commands.specs.declared.rehearsal_stages.StepKind.TheVariants as said
use Rattle.sq_commands.specs.declared.rehearsal_stages.SentQuestion.{SentQuestion}
use Rattle.sq_commands.specs.declared.rehearsal_stages.DriverStage.{DriverStage}
use Rattle.sq_commands.specs.declared.rehearsal_stages.DriverStage.TheVariants as stage
use Rattle.sq_commands.specs.Going.{acting, at_stage, check_turns, next_request, onward, round_begun}
use Rattle.sq_commands.specs.Requests.{client_of, is_even_key, reply_line, target_text}

-- the driver that asks so many requests
abbrev pub first_driver : ℕ → Driver
first_driver last = next_request (record {
  stage = stage.Over;
  last = last;
  number = 0;
  x = 1;
  at = record { check = 0; conn = 0; more = 0 };
  said = said.Done;
  in_round = false;
  left = 0;
  others = [];
  sent = [];
})

-- the moment of its events: request i is asked at 100 × i
abbrev pub moment_of : Driver → ℕ
moment_of d = 100 * d.number

-- it makes the acts that are due before it goes on
abbrev pub is_acting : DriverStage → Bool
is_acting stage.Acting = true
is_acting s = false

-- the request that it is at
abbrev pub request_event : Driver → Event
request_event d = event.Ask d.number (codes "GET") (target_text d.x) []

-- the reply to a question, if one was sent
abbrev pub reply_event : Option SentQuestion → Option Event
reply_event None = None
reply_event (Some s) = Some (event.Line s.proc (reply_line s.channel s.ok))

-- the event that it wants at each stage
abbrev pub event_at : DriverStage → Driver → Option Event
event_at stage.Opening d = Some (event.Open d.number (client_of d.x) 4000)
event_at stage.Asking d = Some (request_event d)
event_at stage.Stepping d = Some (event.Step d.at.check)
event_at stage.Acting d = Some event.Act
event_at (stage.Starting epoch class) d = Some (event.Started epoch class)
event_at stage.Replying d = reply_event (slice_get d.sent 0)
event_at stage.Taking d = Some (event.Take d.at.check)
event_at stage.Closing d = Some (event.Close d.at.conn)
event_at stage.Over d = None

-- the event that the driver wants next
abbrev pub event_of : Driver → Option Event
event_of d = event_at d.stage d

-- a request was asked: its check is driven
abbrev pub asked : Told → Driver → Driver
asked (told.Check n) d = record d
    { stage = stage.Stepping; at = record { check = n; conn = d.number; more = check_turns } }
asked answer d = at_stage stage.Over d

-- what a step said
abbrev pub said_by : Told → StepKind
said_by (told.Took class) = said.Took
said_by (told.Waits question) = said.Waits
said_by answer = said.Done

-- a check went on: acts are due after each step
abbrev pub stepped : Told → Driver → Driver
stepped answer d = acting (record d { said = said_by answer })

-- an act was made: a start is answered at once, and a question that was sent is noted
abbrev pub act_made : Told → Driver → Driver
act_made (told.Start epoch class) d = at_stage (stage.Starting epoch class) d
act_made (told.Send proc question channel key) d = acting (record d
    { sent = d.sent ++ (record { proc = proc; channel = channel; ok = is_even_key key }) ∷ [] })
act_made answer d = acting d

-- the first question that was sent is answered
abbrev pub replied : Driver → Driver
replied d = round_begun (record d { sent = drop 1 d.sent })

-- what the answer to its event makes of it, at each stage
abbrev pub answered_at : DriverStage → Told → Driver → Driver
answered_at stage.Opening answer d = at_stage stage.Asking d
answered_at stage.Asking answer d = asked answer d
answered_at stage.Stepping answer d = stepped answer d
answered_at stage.Acting answer d = act_made answer d
answered_at (stage.Starting epoch class) answer d = acting d
answered_at stage.Replying answer d = replied d
answered_at stage.Taking answer d = at_stage stage.Closing d
answered_at stage.Closing answer d = onward d
answered_at stage.Over answer d = d

-- the driver after the machine's answer to its event
abbrev pub answered : Told → Driver → Driver
answered answer d = answered_at d.stage answer d

-- what a refusal makes of it: it goes on as after an event that says nothing
abbrev pub passed : Driver → Driver
passed d = answered told.Fine d
