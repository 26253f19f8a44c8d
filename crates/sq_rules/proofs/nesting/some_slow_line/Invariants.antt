use Rattle.std.proofs.Common.{◌≡◌, drop}
use Rattle.std.specs.List.{list_any}
use Rattle.sq_rules.specs.Configurations.{some_slow}
use Rattle.sq_rules.proofs.nesting.some_slow_line.Given as goal

abbrev pub invariant-loop-line : goal.invariant-loop-line
invariant-loop-line l = list_any (some_slow l.before) (drop l.line-index l.lines)
    ≡ list_any (some_slow l.before) l.lines
