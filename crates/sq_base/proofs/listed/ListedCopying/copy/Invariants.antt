use Rattle.std.proofs.Common.{◌≡◌, take}
use Rattle.sq_base.proofs.listed.ListedCopying.copy.Given as goal

-- the copies are the values so far
abbrev pub invariant-loop-item : goal.invariant-loop-item
invariant-loop-item g l = l.items.items ≡ take l.item-index l.item-items
