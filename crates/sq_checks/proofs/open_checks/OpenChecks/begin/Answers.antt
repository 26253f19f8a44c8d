use Rattle.std.proofs.Common.{◌≡◌, ◌∙◌, ◌∷◌, [], ap, true}
use Rattle.std.proofs.lemmas.List.{map-append}
use Rattle.sq_checks.specs.OpenChecks.{all_before, entry_row, rows_of}
use Rattle.sq_checks.proofs.MapLaws.{put_last}
use Rattle.sq_checks.proofs.open_checks.OpenChecks.begin.Goals as goal

pub returns-clause-list : goal.returns-clause-list
returns-clause-list c =
    let below : all_before c.args.number (rows_of c.self.inside.map.entries) ≡ true = rw c.self.view_is c.requires in
    rw (← c.self.view_is) (c.in_ok-insert.ensures.entries
    ∙ put_last c.args.number c.args.check c.self.inside.map.entries below)

pub returns-clause-rows : goal.returns-clause-rows
returns-clause-rows c =
    let below : all_before c.args.number (rows_of c.self.inside.map.entries) ≡ true = rw c.self.view_is c.requires in
    rw (← c.self.view_is) (ap rows_of
    (c.in_ok-insert.ensures.entries ∙ put_last c.args.number c.args.check c.self.inside.map.entries below)
    ∙ map-append entry_row c.self.inside.map.entries ((c.args.number, c.args.check) ∷ []))
