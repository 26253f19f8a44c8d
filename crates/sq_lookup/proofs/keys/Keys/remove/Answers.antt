use Rattle.std.proofs.Common.{◌∙◌, ap, None}
use Rattle.sq_lookup.specs.Index.{without_key}
use Rattle.sq_lookup.proofs.MapLaws.{key_after, key_removed}
use Rattle.sq_lookup.proofs.keys.Keys.remove.Goals as goal

pub returns-clause-list : goal.returns-clause-list
returns-clause-list c = c.remove-was.ensures.entries ∙ key_removed c.args.key.now c.self.inside.map.entries
    ∙ ap (without_key c.args.key.now) c.self.view_is

pub returns-clause-question : goal.returns-clause-question
returns-clause-question c = λ k. rw (← c.self.view_is)
    (key_after k c.args.key.now None c.self.inside.map.entries c.remove-was.new.self.entries
    (c.remove-was.ensures.updates.0 k))
