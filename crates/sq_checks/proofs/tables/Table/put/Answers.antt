use Rattle.std.proofs.Common.{ap, ◌∙◌}
use Rattle.sq_checks.specs.Tables.{without}
use Rattle.sq_checks.proofs.MapLaws.{put_undone}
use Rattle.sq_checks.proofs.tables.Table.put.Goals as goal

pub returns-clause-ok : goal.returns-clause-ok
returns-clause-ok g c = λ k. rw (← c.self.view_is) (c.in-Ok.ensures.updates.0 k)

pub returns-clause-undo : goal.returns-clause-undo
returns-clause-undo g c = λ free.
    ap (without c.args.number) c.in-Ok.ensures.entries
    ∙ put_undone c.args.number c.args.value c.self.inside.map.entries (rw c.self.view_is free) ∙ c.self.view_is
