use Rattle.std.proofs.Common.{◌∙◌, ap, sym}
use Rattle.std.specs.BTreeMap.{is_at}
use Rattle.std.specs.Map.{set_value}
use Rattle.std.specs.Ordering.{nat_cmp}
use Rattle.sq_rewrite.proofs.RowLaws.{ended_none}
use Rattle.sq_rewrite.proofs.rows.Questions.end.Goals as goal

pub returns : goal.returns
returns c = rw (← c.self.view_is)
    ((c.get_mut.follows.holds c.end_row.new.row).0
    ∙ ap (set_value (is_at (nat_cmp c.args.question)) c.self.inside.map.entries) c.end_row.ensures)

pub returns-in_default : goal.returns-in_default
returns-in_default c = rw (← c.self.view_is, c.get_mut.follows.holds-at-none)
    (sym (ended_none c.args.question c.args.rewriting c.self.inside.map.entries (sym c.in_default.ensures.value)))
