use Rattle.std.proofs.Common.{◌≡◌, ◌++◌, map, take, drop}
use Rattle.sq_epochs.specs.EpochStates.{new_part}
use Rattle.sq_epochs.specs.Reconfigured.{begun_part, kept_alike, left_epoch}
use Rattle.sq_epochs.proofs.epoch.inherit_parts.Given as goal

-- the classes so far have what was kept of the epoch before, the others are new,
-- and the epoch before is without what was taken
abbrev pub invariant-loop-place : goal.invariant-loop-place
invariant-loop-place l = record {
  parts_are : l.parts ≡ map (begun_part (kept_alike l.initial.before)) (take l.place l.classes)
      ++ drop l.place (map new_part l.classes);
  before_is : l.before ≡ left_epoch (take l.place l.classes) l.initial.before;
}
