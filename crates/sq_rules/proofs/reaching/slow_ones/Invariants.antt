use Rattle.std.proofs.Common.{◌≡◌, drop}
use Rattle.sq_rules.specs.Configurations.{slow_on, slow_ones}
use Rattle.sq_rules.proofs.reaching.slow_ones.Given as goal

-- the acls so far, and the rest behind them
abbrev pub invariant-loop-acl : goal.invariant-loop-acl
invariant-loop-acl l = slow_on l.slow (drop l.acl-index l.acls) ≡ slow_ones l.acls
