use Rattle.std.proofs.Common.{◌∙◌}
use Rattle.sq_lookup.proofs.MapLaws.{key_found}
use Rattle.sq_lookup.proofs.keys.Keys.question.Goals as goal

pub returns : goal.returns
returns c = rw (← c.self.view_is, key_found c.args.key.now c.self.inside.map.entries)
    (c.copied.ensures ∙ c.get.ensures.value)
