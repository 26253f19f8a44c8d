use Rattle.std.proofs.Common.{None}
use Rattle.sq_buckets.proofs.MapLaws.{after, number_key}
use Rattle.sq_pools.proofs.generations.Generations.remove.Goals as goal

pub returns : goal.returns
returns c = λ e. rw (← c.self.view_is)
    (after _ _ number_key e c.args.epoch None c.self.inside.map.entries c.remove-was.new.self.entries
    (c.remove-was.ensures.updates.0 e))
