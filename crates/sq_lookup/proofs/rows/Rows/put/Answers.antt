use Rattle.std.proofs.Common.{◌≡◌, ◌∙◌, ◌==◌, ap, Some, None}
use Rattle.sq_lookup.specs.Index.{row_at, rows_of, listed_by}
use Rattle.sq_lookup.proofs.MapLaws.{number_after}
use Rattle.sq_lookup.proofs.RowLaws.{rows_put, listed_if}
use Rattle.sq_lookup.proofs.rows.Rows.put.Goals as goal

pub returns-in-Ok-clause-rows : goal.returns-in-Ok-clause-rows
returns-in-Ok-clause-rows c =
    let free : row_at c.self.inside.map.entries c.args.question ≡ None = rw c.self.view_is c.requires in
    rw (← c.self.view_is) (ap rows_of c.in-Ok.ensures.entries
    ∙ rows_put c.args.question c.args.row c.self.inside.map.entries free)

pub returns-in-Ok-clause-lists : goal.returns-in-Ok-clause-lists
returns-in-Ok-clause-lists c = λ q n. rw (← c.self.view_is)
    (ap (λ o. listed_by o n)
    (number_after q c.args.question (Some c.args.row) c.self.inside.map.entries c.insert.new.self.entries
    (c.in-Ok.ensures.updates.0 q))
    ∙ listed_if (q == c.args.question) c.args.row (row_at c.self.inside.map.entries q) n)
