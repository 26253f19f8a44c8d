use Rattle.std.proofs.Common.{◌≡◌, drop, max}
use Rattle.sq_rules.specs.Configurations.{deepest}
use Rattle.sq_checks.proofs.depths.deepest.Given as goal

abbrev pub invariant-loop-term : goal.invariant-loop-term
invariant-loop-term l = max l.greatest (deepest l.before (drop l.term-index l.terms)) ≡ deepest l.before l.terms
