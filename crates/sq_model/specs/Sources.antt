-- In the statement: docs/STATEMENT.md lists which definitions.
-- Which text an epoch began by.
use Rattle.std.specs.Prelude.{◌≡◌, suc, List, [], ◌∷◌, Some}
use Rattle.sq_machine.specs.declared.entries.Event.{Event}
use Rattle.sq_machine.specs.declared.entries.Event.TheVariants.{Reconfigure}
use Rattle.sq_rules.specs.Configurations.{Configuration}
use Rattle.sq_machine.specs.Entries.{History}
use Rattle.sq_machine.specs.Epochs.{config_of}
use Rattle.sq_machine.specs.Readings.{current}

-- the text of a reconfiguration is the source of the configuration of the epoch that it begins
abbrev pub IsSourced : List Configuration → History → Event → Type 0
IsSourced configs h (Reconfigure text) = (config : Configuration) × (config.source ≡ text)
    × (config_of configs (suc (current h)) ≡ Some config)
IsSourced configs h event = Unit {0}

-- each reconfiguration holds the source of the configuration of its epoch
abbrev pub AreSourced : List Configuration → History → Type 0
AreSourced configs [] = Unit {0}
AreSourced configs (e ∷ h) = IsSourced configs h e.event × AreSourced configs h
