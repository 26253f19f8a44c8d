use Rattle.std.proofs.Common.{◌∙◌}
use Rattle.sq_eval.proofs.PoolLaws.{pool_is}
use Rattle.sq_eval.proofs.pools.pool_of.Goals as goal

pub returns : goal.returns
returns c = λ s is same.
    c.first_pool.ensures ∙ pool_is c.args.config.now c.args.facts.now s c.args.addr c.facts.ensures.members
    c.facts.ensures.pools_are is same
