use Rattle.std.proofs.Common.{◌≡◌, drop}
use Rattle.std.specs.List.{list_all}
use Rattle.sq_rules.specs.Drafts.{is_fast}
use Rattle.sq_conf.proofs.pools.are_fast_pools.Given as goal

abbrev pub invariant-loop-pool : goal.invariant-loop-pool
invariant-loop-pool l = list_all (λ p. list_all (is_fast l.slow) p.lists) (drop l.pool-index l.pools)
    ≡ list_all (λ p. list_all (is_fast l.slow) p.lists) l.pools
