use Rattle.std.proofs.Common.{◌≡◌}
use Rattle.std.specs.Io.KnownBytes.{Keeps}
use Rattle.sq_system.proofs.again.write_again.Given as goal

-- a call that is made again is no fault, and writes no byte
abbrev pub invariant-loop : goal.invariant-loop
invariant-loop g l = record {
  counted : l.faults ≡ l.fn.faults;
  kept : Keeps (g.W.Write.contents l.fn.to) (g.W.Write.contents l.to);
}
