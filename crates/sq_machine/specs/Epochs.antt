-- In the statement: docs/STATEMENT.md lists which definitions.
-- Epochs of a history: each reconfiguration begins one, and it lives while it is current or has an
-- open check.
use Rattle.std.specs.Prelude.{ℕ, zero, suc, List, [], length, Bool, false, None, ◌||◌, ◌&&◌, ◌==◌, slice_get, bytes_eq, position}
use Rattle.std.specs.List.{list_any, find}
use Rattle.std.specs.Option.{option_and_then, option_map_or}
use Rattle.std.specs.declared.option.Option.{Option}
use Rattle.sq_rules.specs.Classes.{Class}
use Rattle.sq_rules.specs.Configurations.{Configuration}
use Rattle.sq_machine.specs.Entries.{History}
use Rattle.sq_machine.specs.Numbered.{picks}
use Rattle.sq_machine.specs.Readings.{current}
use Rattle.sq_machine.specs.Checks.{ask_count, ask_of, check_open}

-- the configuration of an epoch: epochs are numbered from 1
abbrev pub config_of : List Configuration → ℕ → Option Configuration
config_of configs zero = None
config_of configs (suc before) = slice_get configs before

-- check n is open and of this epoch
abbrev pub is_check_of : History → ℕ → ℕ → Bool
is_check_of h e n = option_map_or (λ a. a.epoch == e) (ask_of h n) false && check_open h n

-- some open check is of this epoch
abbrev pub has_open_check : History → ℕ → Bool
has_open_check h e = list_any (is_check_of h e) (picks (check_open h) (ask_count h))

-- the epoch lives
abbrev pub is_live : History → ℕ → Bool
is_live h e = e == current h || has_open_check h e

-- the epochs that live, in order
abbrev pub live_epochs : History → List ℕ
live_epochs h = picks (is_live h) (current h)

-- how many epochs have an open check
abbrev pub busy_epochs : History → ℕ
busy_epochs h = length (picks (has_open_check h) (current h))

-- the class at a place of an epoch's configuration
abbrev pub class_at : List Configuration → ℕ → ℕ → Option Class
class_at configs e c = option_and_then (λ config. slice_get config.classes c) (config_of configs e)

-- the name of that class
abbrev pub name_of_class : List Configuration → ℕ → ℕ → List ℕ
name_of_class configs e c = option_map_or (λ class. class.name) (class_at configs e c) []

-- the place of the class of this name in an epoch's configuration
abbrev pub place_of_class : List Configuration → ℕ → List ℕ → Option ℕ
place_of_class configs e name = option_and_then
    (λ config. position (λ class. bytes_eq class.name name) config.classes) (config_of configs e)

-- the class of this name
abbrev pub class_named : List Configuration → ℕ → List ℕ → Option Class
class_named configs e name = option_and_then
    (λ config. find (λ class. bytes_eq class.name name) config.classes) (config_of configs e)

-- how many channels the processes of that class have; 0 is one without a number
abbrev pub channels_named : List Configuration → ℕ → List ℕ → ℕ
channels_named configs e name = option_map_or (λ class. class.concurrency)
    (class_named configs e name) 0
