-- In the statement: docs/STATEMENT.md lists which definitions.
-- The act that is due, by the machine's state.
use Rattle.std.specs.Prelude.{ℕ, List, map, length, Some, None, if◌then◌else◌}
use Rattle.std.specs.List.{flat_map}
use Rattle.std.specs.Option.{option_and_then, option_map, option_map_or, option_or}
use Rattle.std.specs.declared.option.Option.{Option}
use Rattle.sq_machine.specs.DueActs.{ClassId, Due, first_made, first_of, sends, starts, stops}
use Rattle.sq_machine.specs.Farms.{send_of, start_due}
use Rattle.sq_machine.specs.Numbered.{below, picks}
use Rattle.sq_model.specs.States.{State, live}

-- the classes of a live epoch, in order
abbrev pub places_in : State → ℕ → List ClassId
places_in s e = map (λ c. record { epoch = e; class = c })
    (below (option_map_or (λ config. length config.classes) (s.config e) 0))

-- the classes of the live epochs, by epoch and place
abbrev pub live_places_in : State → List ClassId
live_places_in s = flat_map (places_in s) (picks (live s) s.current)

-- the stop of the least process for which one is due
abbrev pub stop_in : State → Option Due
stop_in s = option_map stops (first_of (picks s.stop s.procs))

-- the send of a class, where one is due
abbrev pub send_in : State → ClassId → Option Due
send_in s p = option_map (sends p) (option_and_then (λ r. send_of r.stock) (s.row p.epoch p.class))

-- the start of a class, where one is due
abbrev pub start_in : State → ClassId → Option Due
start_in s p = option_and_then (λ r. if start_due r.stock then Some (starts p) else None)
    (s.row p.epoch p.class)

-- the next act: first stops, then sends, then starts
abbrev pub due_in : State → Option Due
due_in s =
    option_or (stop_in s)
    (option_or (first_made (send_in s) (live_places_in s))
    (first_made (start_in s) (live_places_in s)))
