use Rattle.std.proofs.Common.{◌≡◌, drop, max}
use Rattle.sq_rules.specs.Configurations.{greatest_of}
use Rattle.sq_checks.proofs.depths.greatest.Given as goal

abbrev pub invariant-loop-number : goal.invariant-loop-number
invariant-loop-number l = max l.greatest (greatest_of (λ n. n) (drop l.number-index l.numbers))
    ≡ greatest_of (λ n. n) l.numbers
