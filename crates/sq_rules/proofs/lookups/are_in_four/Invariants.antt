use Rattle.std.proofs.Common.{◌≡◌, drop}
use Rattle.sq_rules.specs.Lookups.{are_in_four}
use Rattle.sq_rules.proofs.lookups.are_in_four.Given as goal

abbrev pub invariant-loop-place : goal.invariant-loop-place
invariant-loop-place l = are_in_four l.place (drop l.place l.acls) ≡ are_in_four 0 l.acls
