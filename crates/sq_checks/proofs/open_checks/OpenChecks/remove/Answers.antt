use Rattle.std.proofs.Common.{◌∙◌, ap}
use Rattle.sq_checks.specs.OpenChecks.{rows_of}
use Rattle.sq_checks.specs.Tables.{value_at}
use Rattle.sq_checks.proofs.MapLaws.{removed_list, rows_without, sorted_once}
use Rattle.sq_checks.proofs.open_checks.OpenChecks.remove.Goals as goal

pub returns-clause-check : goal.returns-clause-check
returns-clause-check c = c.remove.ensures.value ∙ ap (λ es. value_at es c.args.number) c.self.view_is

pub returns-clause-list : goal.returns-clause-list
returns-clause-list c =
    let es = c.self.inside.map.entries in
    rw (← c.self.view_is) (c.remove.ensures.entries
    ∙ removed_list c.args.number es (sorted_once es c.len-len.ensures.ordered))

pub returns-clause-rows : goal.returns-clause-rows
returns-clause-rows c =
    let es = c.self.inside.map.entries in
    rw (← c.self.view_is)
    (ap rows_of (c.remove.ensures.entries ∙ removed_list c.args.number es (sorted_once es c.len-len.ensures.ordered))
    ∙ rows_without c.args.number es)
