-- Which classes of an epoch owe an act, as sets of their places.
use Rattle.std.specs.Prelude.{ℕ, ◌≤◌, List, length}
use Rattle.sq_epochs.specs.Sets.{IsSetAt, IsSetOf}
use Rattle.sq_rules.specs.Classes.{Class}
use Rattle.sq_rules.specs.Limits.{most_classes}
use Rattle.sq_class.specs.Parts.{PartState}
use Rattle.sq_epochs.specs.DueStates.{owes_send, owes_start}
use Rattle.sq_epochs.specs.EpochStates.{AreParts}

-- the classes that owe a send, and those that owe a start
pub record DueState : Type 0 where
  pub sends : ℕ
  pub starts : ℕ

-- the classes that owe an act are those whose parts do
pub record IsDueOf (parts : List PartState) (due : DueState) : Type 0 where
  pub sends_are : IsSetOf owes_send parts due.sends
  pub starts_are : IsSetOf owes_start parts due.starts

-- the class at this place owes what its part does, and each other what it owed
pub record IsMarked (c : ℕ) (p : PartState) (old new : DueState) : Type 0 where
  pub sends_are : IsSetAt c (owes_send p) old.sends new.sends
  pub starts_are : IsSetAt c (owes_start p) old.starts new.starts

-- an epoch has a part for each class, of which there are few, and what is due of each is known
pub record IsEpoch (classes : List Class) (parts : List PartState) (due : DueState) : Type 0 where
  pub parts_are : AreParts classes parts
  pub few : length parts ≤ most_classes
  pub due_are : IsDueOf parts due
