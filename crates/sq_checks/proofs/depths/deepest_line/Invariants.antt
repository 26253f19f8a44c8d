use Rattle.std.proofs.Common.{◌≡◌, drop, max}
use Rattle.sq_rules.specs.Configurations.{deepest, greatest_of}
use Rattle.sq_checks.proofs.depths.deepest_line.Given as goal

abbrev pub invariant-loop-line : goal.invariant-loop-line
invariant-loop-line l = max l.greatest (greatest_of (deepest l.before) (drop l.line-index l.lines))
    ≡ greatest_of (deepest l.before) l.lines
