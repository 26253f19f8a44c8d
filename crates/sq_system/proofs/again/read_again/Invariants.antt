use Rattle.std.proofs.Common.{◌≡◌}
use Rattle.std.specs.Io.KnownBytes.{Keeps}
use Rattle.sq_system.proofs.again.read_again.Given as goal

-- a call that is made again is no fault, and takes no byte
abbrev pub invariant-loop : goal.invariant-loop
invariant-loop g l = record {
  counted : l.faults ≡ l.fn.faults;
  kept : Keeps (g.R.Read.remaining l.fn.from) (g.R.Read.remaining l.from);
}
