-- In the statement: docs/STATEMENT.md lists which definitions.
-- How a driver goes from check to check, from round to round, and from request to request.
use Rattle.std.specs.Prelude.{ℕ, ◌+◌, ◌-◌, [], ◌∷◌, ◌++◌, drop, length, slice_get, true, false, ◌==◌, ◌||◌, nat_le, nat_lt, if◌then◌else◌, Some, None}
use Rattle.std.specs.declared.option.Option.{Option}
use Rattle.sq_commands.specs.declared.drivers.Driver.{Driver}
use Rattle.sq_commands.specs.declared.rehearsal_stages.Pending.{Pending}
use Rattle.sq_commands.specs.declared.rehearsal_stages.StepKind.{StepKind}
use Rattle.sq_commands.specs.declared.rehearsal_stages.StepKind.TheVariants as said
use Rattle.sq_commands.specs.declared.rehearsal_stages.DriverStage.{DriverStage}
use Rattle.sq_commands.specs.declared.rehearsal_stages.DriverStage.TheVariants as stage
use Rattle.sq_commands.specs.Requests.{number_after}

-- the driver at this stage
abbrev pub at_stage : DriverStage → Driver → Driver
at_stage s d = record d { stage = s }

-- so many turns a check has: its steps and the acts behind them take one each
abbrev pub check_turns : ℕ
check_turns = 12

-- a pending check with one turn less to go
abbrev pub turn_taken : Pending → Pending
turn_taken p = record p { more = p.more - 1 }

-- the next request, if one is left
abbrev pub next_request : Driver → Driver
next_request d =
    if nat_lt d.number d.last then record d
    { stage = stage.Opening; number = d.number + 1; x = number_after d.x; in_round = false }
    else record d { stage = stage.Over; in_round = false }

-- a check is driven; without one the next request is asked
abbrev pub driven : Option Pending → Driver → Driver
driven None d = next_request d
driven (Some check) d = record d { stage = stage.Stepping; at = check }

-- the first open check is driven in this round, if there is one, and then those behind it
abbrev pub first_driven : Option Pending → Driver → Driver
first_driven None d = next_request d
first_driven (Some check) d = record d
    { stage = stage.Stepping; at = check; left = length d.others }

-- the driver at its first other check
abbrev pub checks_begun : Driver → Driver
checks_begun d = first_driven (slice_get d.others 0) (record d { others = drop 1 d.others })

-- a round goes on: the questions that were sent and have no answer are answered, and then open
-- checks go on
abbrev pub round_begun : Driver → Driver
round_begun d = if length d.sent == 0 then checks_begun d else at_stage stage.Replying d

-- the next check of a round goes on; another round begins while a check is open; then the next
-- request is asked
abbrev pub next_in_round : Driver → Driver
next_in_round d =
    if length d.others == 0 then next_request d
    else (if d.left == 0 then round_begun d
    else driven (slice_get d.others 0) (record d { left = d.left - 1; others = drop 1 d.others }))

-- behind every fourth request, when four checks are open, and behind the last rounds begin
abbrev pub after_request : Driver → Driver
after_request d =
    if nat_le 4 (length d.others) || d.number == d.last
    then round_begun (record d { in_round = true }) else next_request d

-- nothing is left to do for the check that was driven
abbrev pub onward : Driver → Driver
onward d = if d.in_round then next_in_round d else after_request d

-- the check that was driven stays open
abbrev pub put_back : Driver → Driver
put_back d = onward (record d { others = d.others ++ d.at ∷ [] })

-- the check has no outcome: it is put back, or closed where it has no turn left
abbrev pub left_open : Driver → Driver
left_open d = if d.at.more == 0 then at_stage stage.Closing d else put_back d

-- no act is due any more after a step that said so: the check goes on, or it is put back; an
-- outcome is taken in rounds, or where no turn is left
abbrev pub acted_by : StepKind → Driver → Driver
acted_by said.Took d =
    if d.at.more == 0 then at_stage stage.Closing d else at_stage stage.Stepping d
acted_by said.Waits d = left_open d
acted_by said.Done d =
    if d.in_round || d.at.more == 0 then at_stage stage.Taking d else put_back d

-- the driver after it acted on what a helper said
abbrev pub acted : Driver → Driver
acted d = acted_by d.said d

-- acts are made while the check has turns
abbrev pub acting : Driver → Driver
acting d =
    if d.at.more == 0 then acted d
    else record d { stage = stage.Acting; at = turn_taken d.at }
