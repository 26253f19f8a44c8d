use Rattle.std.proofs.Common.{◌≡◌, ◌∙◌, ap, Some, None}
use Rattle.sq_pools.specs.Seats.{seat_at, without_seat}
use Rattle.sq_buckets.proofs.MapLaws.{after, number_key, put_undone}
use Rattle.sq_pools.proofs.seats.Seats.put.Goals as goal

pub returns-clause-ok : goal.returns-clause-ok
returns-clause-ok c = λ n. rw (← c.self.view_is)
    (after _ _ number_key n c.args.number (Some c.args.seated) c.self.inside.map.entries c.insert.new.self.entries
    (c.in_ok-_was.ensures.updates.0 n))

pub returns-clause-undo : goal.returns-clause-undo
returns-clause-undo c =
    let free : seat_at c.self.inside.map.entries c.args.number ≡ None = rw c.self.view_is c.requires in
    ap (without_seat c.args.number) c.in_ok-_was.ensures.entries
    ∙ put_undone _ _ number_key c.args.number c.args.seated c.self.inside.map.entries free ∙ c.self.view_is
