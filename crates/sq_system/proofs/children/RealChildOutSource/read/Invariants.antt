use Rattle.std.proofs.Common.{◌≡◌}
use Rattle.sq_system.proofs.children.RealChildOutSource.read.Given as goal

-- no fault was counted so far
abbrev pub invariant-loop : goal.invariant-loop
invariant-loop g l = l.self.faults ≡ l.initial.self.faults
