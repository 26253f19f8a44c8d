use Rattle.std.proofs.Common.{Some}
use Rattle.sq_replay.proofs.HoldingLaws.{after}
use Rattle.sq_replay.proofs.riders.Riders.put.Goals as goal

pub returns-clause-ok : goal.returns-clause-ok
returns-clause-ok c = λ n. rw (← c.self.view_is)
    (after n c.args.conn (Some c.args.ride) c.self.inside.map.entries c.insert.new.self.entries
    (c.in_ok-_was.ensures.updates.0 n))
