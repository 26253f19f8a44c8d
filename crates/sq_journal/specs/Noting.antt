-- What noting an entry does to the entries that a journal tells.
use Rattle.std.specs.Prelude.{◌∷◌}
use Rattle.std.specs.Option.{option_map}
use Rattle.std.specs.declared.option.Option.{Option}
use Rattle.sq_machine.specs.Entries.{Noted, History}

-- with this entry as the newest, where entries are told
abbrev pub with_entry : Noted → Option History → Option History
with_entry e told = option_map (λ h. e ∷ h) told
