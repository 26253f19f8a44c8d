use Rattle.std.proofs.Common.{◌≡◌, take, map}
use Rattle.sq_epochs.specs.EpochStates.{new_part}
use Rattle.sq_epochs.proofs.epoch.parts_of.Given as goal

-- a part for each class so far
abbrev pub invariant-loop-class : goal.invariant-loop-class
invariant-loop-class l = l.parts.items ≡ map new_part (take l.class-index l.classes)
