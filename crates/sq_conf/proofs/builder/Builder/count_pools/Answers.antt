use Rattle.sq_conf.proofs.SoundLaws.{IsSound_count}
use Rattle.sq_conf.proofs.builder.Builder.count_pools.Goals as goal

pub invariant_of-self : goal.invariant_of-self
invariant_of-self c = IsSound_count _ _ c.args.count c.in_ok-pools.pools.items c.self.invariant c.in_ok-pools.ensures
    c.requires
