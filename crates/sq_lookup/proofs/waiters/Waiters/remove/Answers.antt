use Rattle.std.proofs.Common.{None}
use Rattle.sq_lookup.proofs.MapLaws.{number_after}
use Rattle.sq_lookup.proofs.waiters.Waiters.remove.Goals as goal

pub returns-clause-question : goal.returns-clause-question
returns-clause-question c = λ n. rw (← c.self.view_is)
    (number_after n c.args.check None c.self.inside.map.entries c.remove-was.new.self.entries
    (c.remove-was.ensures.updates.0 n))
