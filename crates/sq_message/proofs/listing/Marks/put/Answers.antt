use Rattle.std.proofs.Common.{Some}
use Rattle.sq_message.proofs.MarkLaws.{mark_after}
use Rattle.sq_message.proofs.listing.Marks.put.Goals as goal

pub returns : goal.returns
returns c = λ k. rw (← c.self.view_is)
    (mark_after c.args.key k (Some c.args.mark) c.self.inside.map.entries c.insert.new.self.entries
    (c.in_ok-_was.ensures.updates.0 k))
