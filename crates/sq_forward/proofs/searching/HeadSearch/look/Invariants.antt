use Rattle.std.proofs.Common.{take}
use Rattle.sq_forward.specs.Searching.{IsSought}
use Rattle.sq_forward.proofs.searching.HeadSearch.look.Given as goal

-- no head ends in the bytes so far
abbrev pub invariant-loop-at : goal.invariant-loop-at
invariant-loop-at l = IsSought (take l.at l.bytes) l.self.begun l.self.line
