-- In the statement: docs/STATEMENT.md lists which definitions.
-- The state that a history comes to, and how many acts are due of it at most: each act takes a due
-- stop, a queued question, or a start that `children-max` leaves.
use Rattle.std.specs.Prelude.{◌≡◌, ℕ, ◌+◌, ◌-◌, List, [], ◌∷◌, length, if◌then◌else◌, Some, None}
use Rattle.std.specs.declared.option.Option.{Option}
use Rattle.sq_machine.specs.declared.entries.Event.TheVariants.{Act}
use Rattle.sq_machine.specs.Checks.{ask_count}
use Rattle.sq_rules.specs.Configurations.{Configuration}
use Rattle.sq_machine.specs.Connections.{conns_of, open_count, peer_at}
use Rattle.sq_machine.specs.DueActs.{ClassId}
use Rattle.sq_machine.specs.Entries.{History}
use Rattle.sq_machine.specs.Epochs.{is_live, config_of}
use Rattle.sq_machine.specs.Farms.{Stock}
use Rattle.sq_machine.specs.Machine.{next}
use Rattle.sq_machine.specs.Next.{nothing}
use Rattle.sq_machine.specs.Marking.{marked}
use Rattle.sq_machine.specs.Marks.{Past, entries}
use Rattle.sq_machine.specs.Numbered.{picks}
use Rattle.sq_machine.specs.Processes.{lives_on, proc_count, stop_due}
use Rattle.sq_machine.specs.Questions.{put_count}
use Rattle.sq_machine.specs.Readings.{current, latest, offset_of}
use Rattle.sq_model.specs.CheckRows.{held_checks}
use Rattle.sq_model.specs.ClassRows.{ClassRow, class_part}
use Rattle.sq_model.specs.Acts.{live_places_in}
use Rattle.sq_model.specs.States.{State, machine_moment, place_of}

-- the state that a history comes to: each part is its reading
abbrev pub state_at : List Configuration → Past → State
state_at configs m = record {
  client = peer_at (entries m);
  conns = open_count (entries m);
  from = conns_of (entries m);
  checks = held_checks configs m;
  asks = ask_count (entries m);
  puts = put_count m;
  current = current (entries m);
  config = λ e. if is_live (entries m) e then config_of configs e else None;
  row = λ e c. if is_live (entries m) e then class_part configs m e c else None;
  procs = proc_count (entries m);
  home = λ k. if lives_on (entries m) k then place_of configs (entries m) k else None;
  stop = stop_due (entries m);
  latest = machine_moment (entries m);
  offset = offset_of (entries m);
}

-- the queued questions of a class, and the starts that it may have beside its processes and open
-- starts
abbrev pub dues_of_stock : Stock → ℕ
dues_of_stock v = length v.queue + (v.children_max - (length v.procs + v.starting))

-- the most acts that are due of a class
abbrev pub dues_of_row : Option ClassRow → ℕ
dues_of_row None = 0
dues_of_row (Some r) = dues_of_stock r.stock

-- those of the class at a place
abbrev pub dues_at : State → ClassId → ℕ
dues_at s p = dues_of_row (s.row p.epoch p.class)

-- the sum of a number over a list
abbrev pub total : {A : Type 0} → (A → ℕ) → List A → ℕ
total f [] = 0
total f (x ∷ xs) = f x + total f xs

-- the acts that are due of a state at most
abbrev pub dues_in : State → ℕ
dues_in s = length (picks s.stop s.procs) + total (dues_at s) (live_places_in s)

-- the acts that are due after a history at most
abbrev pub dues : List Configuration → History → ℕ
dues configs h = dues_in (state_at configs (marked configs h))

-- no act is due after a history
abbrev pub NoneDue : List Configuration → History → Type 0
NoneDue configs h = next configs (marked configs h) (latest h) Act ≡ nothing
