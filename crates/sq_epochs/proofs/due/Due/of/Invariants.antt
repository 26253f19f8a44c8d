use Rattle.std.proofs.Common.{take}
use Rattle.sq_epochs.specs.DueSets.{IsDueOf}
use Rattle.sq_epochs.proofs.due.Due.of.Given as goal

-- what the parts so far owe
abbrev pub invariant-loop-place : goal.invariant-loop-place
invariant-loop-place l = IsDueOf (take l.place l.parts) l.due
