use Rattle.std.proofs.Common.{◌≡◌, ◌∙◌, ap, Some, None}
use Rattle.sq_lookup.specs.Index.{question_at, without_key}
use Rattle.sq_lookup.proofs.MapLaws.{key_after, key_undone}
use Rattle.sq_lookup.proofs.keys.Keys.put.Goals as goal

pub returns-clause-ok : goal.returns-clause-ok
returns-clause-ok c = λ k. rw (← c.self.view_is)
    (key_after k c.args.key (Some c.args.question) c.self.inside.map.entries c.insert.new.self.entries
    (c.in_ok-_was.ensures.updates.0 k))

pub returns-clause-undo : goal.returns-clause-undo
returns-clause-undo c =
    let free : question_at c.self.inside.map.entries c.args.key ≡ None = rw c.self.view_is c.requires in
    ap (without_key c.args.key) c.in_ok-_was.ensures.entries
    ∙ key_undone c.args.key c.args.question c.self.inside.map.entries free ∙ c.self.view_is
