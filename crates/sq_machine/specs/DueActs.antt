-- In the statement: docs/STATEMENT.md lists which definitions.
-- The act that is due: first a stop, then a send, then a start.
use Rattle.std.specs.Prelude.{ℕ, List, [], ◌∷◌, map, length, if◌then◌else◌, Some, None}
use Rattle.std.specs.List.{flat_map}
use Rattle.std.specs.Option.{option_map, option_map_or, option_and_then, option_or}
use Rattle.std.specs.declared.option.Option.{Option}
use Rattle.sq_machine.specs.declared.entries.Told.{Told}
use Rattle.sq_machine.specs.declared.entries.Told.TheVariants as told
use Rattle.sq_rules.specs.Configurations.{Configuration}
use Rattle.sq_machine.specs.Entries.{History}
use Rattle.sq_machine.specs.Epochs.{name_of_class, live_epochs, config_of}
use Rattle.sq_machine.specs.FarmReadings.{farm_of}
use Rattle.sq_machine.specs.Farms.{Sending, send_of, start_due}
use Rattle.sq_machine.specs.Marks.{Past, entries}
use Rattle.sq_machine.specs.Numbered.{below, picks}
use Rattle.sq_machine.specs.Processes.{proc_count, stop_due}

-- the first of a list
abbrev pub first_of : {A : Type 0} → List A → Option A
first_of [] = None
first_of (x ∷ xs) = Some x

-- the first that something is made of
abbrev pub first_made : {A B : Type 0} → (A → Option B) → List A → Option B
first_made f [] = None
first_made f (x ∷ xs) = option_or (f x) (first_made f xs)

-- an epoch and the place of a class in its configuration
pub record ClassId : Type 0 where
  pub epoch : ℕ
  pub class : ℕ

-- an act: the stop of a process, a send of the class at a place, or a start of it
pub data Due : Type 0 where
  stops : ℕ → Due
  sends : ClassId → Sending → Due
  starts : ClassId → Due

-- the classes of an epoch, in order
abbrev pub class_ids : List Configuration → ℕ → List ClassId
class_ids configs e = map (λ c. record { epoch = e; class = c })
    (below (option_map_or (λ config. length config.classes) (config_of configs e) 0))

-- the classes of the live epochs, by epoch and place
abbrev pub live_places : List Configuration → History → List ClassId
live_places configs h = flat_map (class_ids configs) (live_epochs h)

-- the stop of the least process for which one is due
abbrev pub stop_of : History → Option Told
stop_of h = option_map (λ k. told.Stop k) (first_of (picks (stop_due h) (proc_count h)))

-- the answer to an act that sends a question
abbrev pub sending_told : Sending → Told
sending_told s = told.Send s.proc s.question s.channel s.text

-- the send that is due of a class of an epoch
abbrev pub send_at : List Configuration → Past → ClassId → Option Told
send_at configs m p = option_map sending_told
    (option_and_then send_of (farm_of configs m p.epoch p.class))

-- the start that is due of a class of an epoch
abbrev pub start_at : List Configuration → Past → ClassId → Option Told
start_at configs m p =
    option_and_then (λ v. if start_due v then Some
    (told.Start p.epoch (name_of_class configs p.epoch p.class)) else None)
    (farm_of configs m p.epoch p.class)

-- the next act
abbrev pub next_act : List Configuration → Past → Option Told
next_act configs m =
    option_or (stop_of (entries m))
    (option_or (first_made (send_at configs m) (live_places configs (entries m)))
    (first_made (start_at configs m) (live_places configs (entries m))))
