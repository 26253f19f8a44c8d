use Rattle.std.proofs.Common.{◌≡◌, replicate}
use Rattle.sq_rules.specs.Drafts.{no_pool}
use Rattle.sq_conf.proofs.pools.new_pools.Given as goal

abbrev pub invariant-loop-place : goal.invariant-loop-place
invariant-loop-place l = l.pools.items ≡ replicate l._place no_pool
