use Rattle.std.proofs.Common.{◌≡◌, drop, take}
use Rattle.sq_urlmatch.specs.Found.{fault_from, finds_of_each}
use Rattle.sq_urlmatch.proofs.patterns.Patterns.of.Given as goal

abbrev pub invariant-loop-place : goal.invariant-loop-place
invariant-loop-place l = record {
  made : l.lists.items ≡ finds_of_each (take l.place l.acls);
  good : fault_from l.place (drop l.place l.acls) ≡ fault_from 0 l.acls;
}
