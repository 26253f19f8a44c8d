use Rattle.std.proofs.Common.{◌≡◌, take}
use Rattle.sq_urlmatch.proofs.compiled.copies_of.Given as goal

abbrev pub invariant-loop-find : goal.invariant-loop-find
invariant-loop-find l = l.copies ≡ take l.find-index l.finds
