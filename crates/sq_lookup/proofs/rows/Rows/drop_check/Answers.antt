use Rattle.std.proofs.Common.{◌≡◌, ◌∙◌, ◌==◌, refl, ap, sym, rules, Some}
use Rattle.std.specs.BTreeMap.{is_at}
use Rattle.std.specs.Ordering.{nat_cmp}
use Rattle.sq_lookup.specs.Index.{row_at, rows_of, listed_by}
use Rattle.sq_lookup.specs.declared.rows.Row.{Row}
use Rattle.sq_lookup.proofs.MapLaws.{number_found, number_after}
use Rattle.sq_lookup.proofs.RowLaws.{rows_kept, listed_if, listed_less}
use Rattle.sq_lookup.proofs.rows.Rows.drop_check.Goals as goal

pub returns-clause-rows : goal.returns-clause-rows
returns-clause-rows c =
    let w : Row = record { key = c.in-Some.row.now.key; checks = c.remove.new.self } in
    rw (← c.self.view_is)
    (ap rows_of (c.get_mut.follows.holds w).0
    ∙ rows_kept (is_at (nat_cmp c.args.question)) c.self.inside.map.entries c.in-Some.row.now w c.in-Some.ensures.value
    refl)

pub returns-clause-lists : goal.returns-clause-lists
returns-clause-lists c = λ q n.
    let w : Row = record { key = c.in-Some.row.now.key; checks = c.remove.new.self } in
    let here : row_at c.self.inside.map.entries c.args.question ≡ Some c.in-Some.row.now =
    number_found c.args.question c.self.inside.map.entries ∙ sym c.in-Some.ensures.value in
    rw (← c.self.view_is)
    (ap (λ o. listed_by o n)
    (number_after q c.args.question (Some w) c.self.inside.map.entries (c.get_mut.follows.lender w).entries
    (((c.get_mut.follows.holds w).3 (search rules)).0 q))
    ∙ listed_if (q == c.args.question) w (row_at c.self.inside.map.entries q) n
    ∙ listed_less q c.args.question n c.args.check c.self.inside.map.entries c.in-Some.row.now w here
    (c.remove.ensures n))
