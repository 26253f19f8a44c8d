-- What another configuration makes of the live epochs: cached replies move to the classes that are
-- alike.
use Rattle.std.specs.Prelude.{ℕ, suc, List, [], ◌∷◌, ◌++◌, map, ◌==◌, if◌then◌else◌, is_some, position, slice_get}
use Rattle.std.specs.Option.{option_map_or}
use Rattle.std.specs.declared.option.Option.{Option}
use Rattle.sq_rules.specs.Classes.{Class}
use Rattle.sq_rules.specs.Configurations.{Configuration}
use Rattle.sq_rules.specs.AlikeClasses.{is_alike}
use Rattle.sq_machine.specs.KeptLists.{CachedReplies}
use Rattle.sq_model.specs.ClassRows.{new_row}
use Rattle.sq_class.specs.Parts.{PartState}
use Rattle.sq_epochs.specs.EpochStates.{EpochState, EpochsState, change_epoch, epoch_in}
use Rattle.sq_epochs.specs.LiveEpochs.{checks_at, drop_epoch}

-- the place of the class among these that is alike to this one
abbrev pub alike_in : List Class → Class → Option ℕ
alike_in classes class = position (λ other. is_alike other class) classes

-- what is kept of the class at a place of an epoch
abbrev pub kept_in : List PartState → ℕ → CachedReplies
kept_in parts c = option_map_or (λ p. p.row.kept) (slice_get parts c) []

-- what is kept of the class of an epoch that is alike to this one
abbrev pub kept_alike : EpochState → Class → CachedReplies
kept_alike x class = option_map_or (kept_in x.parts) (alike_in x.config.classes class) []

-- the same of the live epoch with this number
abbrev pub kept_before : List EpochState → ℕ → Class → CachedReplies
kept_before epochs e class = option_map_or (λ x. kept_alike x class) (epoch_in e epochs) []

-- a class that begins, of which this is kept
abbrev pub begun_part : (Class → CachedReplies) → Class → PartState
begun_part before class = record {
  row = new_row (before class) class;
  waiting = [];
  limit = class.cache;
}

-- an epoch that begins, of whose classes this is kept
abbrev pub begun_epoch : (Class → CachedReplies) → ℕ → Configuration → EpochState
begun_epoch before e config = record {
  epoch = e;
  config = config;
  checks = 0;
  parts = map (begun_part before) config.classes;
}

-- a part of which nothing is kept
abbrev pub emptied : PartState → PartState
emptied p = record p { row = record p.row { kept = [] } }

-- the part of a class after an epoch with these classes began: where one of them is alike, nothing
-- is kept of it
abbrev pub left_part : List Class → Class → PartState → PartState
left_part classes class p = if is_some (alike_in classes class) then emptied p else p

abbrev pub left_parts : List Class → List Class → List PartState → List PartState
left_parts classes [] parts = parts
left_parts classes (class ∷ old) [] = []
left_parts classes (class ∷ old) (p ∷ parts) = left_part classes class p
    ∷ left_parts classes old parts

-- an epoch after one with these classes began
abbrev pub left_epoch : List Class → EpochState → EpochState
left_epoch classes x = record x { parts = left_parts classes x.config.classes x.parts }

-- the live epochs with one more, whose configuration is this, behind the one with this number
abbrev pub with_begun : ℕ → Configuration → List EpochState → List EpochState
with_begun e config epochs = change_epoch e (left_epoch config.classes) epochs
    ++ begun_epoch (kept_before epochs e) (suc e) config ∷ []

-- an epoch with this configuration began and is current
abbrev pub with_epoch : Configuration → EpochsState → EpochsState
with_epoch config v = record v
    { current = suc v.current; epochs = with_begun v.current config v.epochs }

-- another configuration is current; the epoch that was current ends where it has no open check
abbrev pub after_reconfigured : Configuration → EpochsState → EpochsState
after_reconfigured config v = if checks_at v v.current
    == 0 then drop_epoch v.current (with_epoch config v) else with_epoch config v
