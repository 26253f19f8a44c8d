use Rattle.std.proofs.Common.{◌∙◌}
use Rattle.sq_rewrite.proofs.RowLaws.{removed}
use Rattle.sq_rewrite.proofs.rows.Questions.remove.Goals as goal

pub returns-clause-others : goal.returns-clause-others
returns-clause-others c = rw (← c.self.view_is)
    (c.remove.ensures.entries ∙ removed c.args.question c.self.inside.map.entries c.len-len.ensures.ordered)
