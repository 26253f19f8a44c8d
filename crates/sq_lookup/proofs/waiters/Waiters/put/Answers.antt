use Rattle.std.proofs.Common.{◌≡◌, ◌∙◌, ap, Some, None}
use Rattle.sq_machine.specs.OpenLookups.{question_of}
use Rattle.sq_lookup.specs.Waits.{without_waiting}
use Rattle.sq_lookup.proofs.MapLaws.{number_after, put_undone}
use Rattle.sq_lookup.proofs.waiters.Waiters.put.Goals as goal

pub returns-clause-ok : goal.returns-clause-ok
returns-clause-ok c = λ n. rw (← c.self.view_is)
    (number_after n c.args.check (Some c.args.question) c.self.inside.map.entries c.insert.new.self.entries
    (c.in_ok-_was.ensures.updates.0 n))

pub returns-clause-undo : goal.returns-clause-undo
returns-clause-undo c =
    let free : question_of c.args.check c.self.inside.map.entries ≡ None = rw c.self.view_is c.requires in
    ap (without_waiting c.args.check) c.in_ok-_was.ensures.entries
    ∙ put_undone c.args.check c.args.question c.self.inside.map.entries free ∙ c.self.view_is
