use Rattle.std.proofs.Common.{◌∙◌, ◌==◌, ap, None}
use Rattle.sq_lookup.specs.Index.{row_at, rows_of, listed_by}
use Rattle.sq_lookup.proofs.MapLaws.{number_after}
use Rattle.sq_lookup.proofs.RowLaws.{rows_removed, others_left, listed_unless}
use Rattle.sq_lookup.proofs.rows.Rows.remove.Goals as goal

pub returns-clause-rows : goal.returns-clause-rows
returns-clause-rows c = rw (← c.self.view_is)
    (ap rows_of c.remove.ensures.entries ∙ rows_removed c.args.question c.self.inside.map.entries)

pub returns-clause-others : goal.returns-clause-others
returns-clause-others c = rw (← c.self.view_is)
    (ap rows_of c.remove.ensures.entries ∙ rows_removed c.args.question c.self.inside.map.entries
    ∙ others_left c.args.question c.self.inside.map.entries c.len-len.ensures.ordered)

pub returns-clause-lists : goal.returns-clause-lists
returns-clause-lists c = λ q n. rw (← c.self.view_is)
    (ap (λ o. listed_by o n)
    (number_after q c.args.question None c.self.inside.map.entries c.remove.new.self.entries
    (c.remove.ensures.updates.0 q))
    ∙ listed_unless (q == c.args.question) (row_at c.self.inside.map.entries q) n)
