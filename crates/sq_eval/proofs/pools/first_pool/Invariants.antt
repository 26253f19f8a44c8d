use Rattle.std.proofs.Common.{◌≡◌, true, drop}
use Rattle.std.specs.List.{list_all}
use Rattle.sq_rules.specs.Configurations.{is_pool}
use Rattle.sq_rules.specs.Verdicts.{pool_from}
use Rattle.sq_eval.specs.Takings.{acls_in, taken_in}
use Rattle.sq_eval.proofs.pools.first_pool.Given as goal

-- no pool so far is the check's
abbrev pub invariant-loop-pool : goal.invariant-loop-pool
invariant-loop-pool g l = record {
  rest : pool_from (taken_in l.taking) (acls_in l.taking) l.addr l.place (drop l.pool-index l.taking.config.now.pools)
      ≡ pool_from (taken_in l.taking) (acls_in l.taking) l.addr 0 l.taking.config.now.pools;
  are : list_all (is_pool (acls_in l.taking)) (drop l.pool-index l.taking.config.now.pools) ≡ true;
  counted : l.place ≡ l.pool-index;
}
