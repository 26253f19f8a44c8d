use Rattle.std.proofs.Common.{Some}
use Rattle.sq_forward.proofs.TableLaws.{standing_after}
use Rattle.sq_forward.proofs.access_table.Standings.put.Goals as goal

pub returns : goal.returns
returns c = λ k. rw (← c.self.view_is)
    (standing_after c.args.key k (Some c.args.standing) c.self.inside.map.entries c.insert.new.self.entries
    (c.in_ok-_was.ensures.updates.0 k))
