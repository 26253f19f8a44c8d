use Rattle.std.proofs.Common.{◌≡◌, ◌++◌, map}
use Rattle.sq_rules.specs.Drafts.{are_complete, pool_of_draft}
use Rattle.sq_conf.proofs.pools.complete_pools.Given as goal

abbrev pub invariant-loop-pool : goal.invariant-loop-pool
invariant-loop-pool l = record {
  made : l.pools ++ map pool_of_draft l.pool-iterator.rest.items ≡ map pool_of_draft l.fn.stated.items;
  complete : are_complete l.pool-iterator.rest.items ≡ are_complete l.fn.stated.items;
}
