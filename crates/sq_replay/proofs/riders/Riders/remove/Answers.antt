use Rattle.std.proofs.Common.{None}
use Rattle.sq_replay.proofs.HoldingLaws.{after}
use Rattle.sq_replay.proofs.riders.Riders.remove.Goals as goal

pub returns : goal.returns
returns c = λ n. rw (← c.self.view_is)
    (after n c.args.conn None c.self.inside.map.entries c.remove-was.new.self.entries
    (c.remove-was.ensures.updates.0 n))
