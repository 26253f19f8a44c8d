use Rattle.std.proofs.Common.{Some}
use Rattle.sq_buckets.proofs.MapLaws.{after, number_key}
use Rattle.sq_pools.proofs.generations.Generations.put.Goals as goal

pub returns-clause-ok : goal.returns-clause-ok
returns-clause-ok c = λ e. rw (← c.self.view_is)
    (after _ _ number_key e c.args.epoch (Some c.args.generation) c.self.inside.map.entries c.insert.new.self.entries
    (c.in_ok-_was.ensures.updates.0 e))
