use Rattle.std.proofs.Common.{◌≡◌, drop}
use Rattle.sq_urlmatch.specs.Found.{fault_from}
use Rattle.sq_urlmatch.proofs.patterns.read_all.Given as goal

abbrev pub invariant-loop-place : goal.invariant-loop-place
invariant-loop-place l = fault_from l.place (drop l.place l.acls) ≡ fault_from 0 l.acls
