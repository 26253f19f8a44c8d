-- The live epochs as they are kept, and what a change of one class makes of them.
use Rattle.std.specs.Prelude.{◌≡◌, ℕ, List, [], ◌∷◌, map, if◌then◌else◌, ◌==◌, slice_get, slice_set, Some, None}
use Rattle.std.specs.Option.{option_map}
use Rattle.std.specs.declared.option.Option.{Option}
use Rattle.sq_rules.specs.Classes.{Class}
use Rattle.sq_rules.specs.Configurations.{Configuration}
use Rattle.sq_machine.specs.DueActs.{ClassId}
use Rattle.sq_model.specs.ClassRows.{ClassRow, new_row}
use Rattle.sq_class.specs.Parts.{PartState}
use Rattle.sq_epochs.specs.HomeStates.{Home, home_in}

-- a live epoch: its number, its configuration, how many checks of it are open, and a part for each
-- class, in the configuration's order
pub record EpochState : Type 0 where
  pub epoch : ℕ
  pub config : Configuration
  pub checks : ℕ
  pub parts : List PartState

-- what is kept by epoch: the number of the current one, the live epochs in order, how many
-- processes were numbered, of which epoch and class each living process is, and the processes for
-- which a stop is due, by number
pub record EpochsState : Type 0 where
  pub current : ℕ
  pub epochs : List EpochState
  pub procs : ℕ
  pub homes : List Home
  pub stops : List ℕ

abbrev pub epoch_number : EpochState → ℕ
epoch_number x = x.epoch

-- the epoch with this number
abbrev pub epoch_in : ℕ → List EpochState → Option EpochState
epoch_in e [] = None
epoch_in e (x ∷ xs) = if e == x.epoch then Some x else epoch_in e xs

-- the live epoch with this number
abbrev pub epoch_at : EpochsState → ℕ → Option EpochState
epoch_at v e = epoch_in e v.epochs

abbrev pub part_of : ℕ → Option EpochState → Option PartState
part_of c None = None
part_of c (Some x) = slice_get x.parts c

abbrev pub class_of : ℕ → Option EpochState → Option Class
class_of c None = None
class_of c (Some x) = slice_get x.config.classes c

-- the part of the class at a place of a live epoch
abbrev pub part_at : EpochsState → ℕ → ℕ → Option PartState
part_at v e c = part_of c (epoch_at v e)

-- the class itself
abbrev pub class_at : EpochsState → ℕ → ℕ → Option Class
class_at v e c = class_of c (epoch_at v e)

-- its row
abbrev pub row_at : EpochsState → ℕ → ℕ → Option ClassRow
row_at v e c = option_map (λ p. p.row) (part_at v e c)

-- of which epoch and class a living process is
abbrev pub home_at : EpochsState → ℕ → Option ClassId
home_at v k = home_in k v.homes

-- the epochs with the one of this number changed
abbrev pub change_epoch : ℕ → (EpochState → EpochState) → List EpochState → List EpochState
change_epoch e f [] = []
change_epoch e f (x ∷ xs) = if e == x.epoch then f x ∷ xs else x ∷ change_epoch e f xs

-- an epoch with another part at this place
abbrev pub with_part : ℕ → PartState → EpochState → EpochState
with_part c p x = record x { parts = slice_set x.parts c p }

-- the part at this place was changed so, and nothing else of the epoch
pub record IsEpochChanged (c : ℕ) (Change : PartState → PartState → Type 0)
    (old new : EpochState) : Type 0 where
  pub before : PartState
  pub after : PartState
  pub was : slice_get old.parts c ≡ Some before
  pub change : Change before after
  pub new_is : new ≡ with_part c after old

-- the part of the class at this place of this epoch was changed so, and nothing else
pub record IsChanged (e c : ℕ) (Change : PartState → PartState → Type 0)
    (old new : EpochsState) : Type 0 where
  pub before : PartState
  pub after : PartState
  pub was : part_at old e c ≡ Some before
  pub change : Change before after
  pub new_is : new ≡ record old { epochs = change_epoch e (with_part c after) old.epochs }

abbrev pub part_limit : PartState → ℕ
part_limit p = p.limit

abbrev pub class_cache : Class → ℕ
class_cache c = c.cache

-- a class without questions and processes, of which nothing is kept
abbrev pub new_part : Class → PartState
new_part class = record { row = new_row [] class; waiting = []; limit = class.cache }

-- an epoch that begins, of whose classes nothing is kept
abbrev pub new_epoch : ℕ → Configuration → EpochState
new_epoch e config = record {
  epoch = e;
  config = config;
  checks = 0;
  parts = map new_part config.classes;
}

-- an epoch has a part for each class, which keeps as many verdicts as the class may
abbrev pub AreParts : List Class → List PartState → Type 0
AreParts classes parts = map part_limit parts ≡ map class_cache classes
