use Rattle.std.proofs.Common.{◌∙◌, ap}
use Rattle.sq_rewrite.specs.States.{without_row}
use Rattle.sq_rewrite.specs.declared.rows.QuestionRow.TheVariants as row
use Rattle.sq_rewrite.proofs.RowLaws.{undone}
use Rattle.sq_rewrite.proofs.rows.Questions.put.Goals as goal

pub returns-clause-undo : goal.returns-clause-undo
returns-clause-undo c =
    rw (← c.self.view_is) (ap (without_row c.args.question) c.in_ok-_was.ensures.entries
    ∙ undone c.args.question (row.Open c.args.request) c.self.inside.map.entries (rw (← c.self.view_is) at c.requires))
