use Rattle.std.proofs.Common.{None}
use Rattle.sq_buckets.proofs.MapLaws.{after, number_key}
use Rattle.sq_pools.proofs.seats.Seats.remove.Goals as goal

pub returns-clause-others : goal.returns-clause-others
returns-clause-others c = λ n. rw (← c.self.view_is)
    (after _ _ number_key n c.args.number None c.self.inside.map.entries c.remove.new.self.entries
    (c.remove.ensures.updates.0 n))
