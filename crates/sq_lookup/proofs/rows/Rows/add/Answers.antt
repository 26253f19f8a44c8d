use Rattle.std.proofs.Common.{◌≡◌, ◌∙◌, ◌==◌, refl, ap, sym, rules, List, ℕ, Some}
use Rattle.std.specs.BTreeMap.{is_at}
use Rattle.std.specs.Ordering.{nat_cmp}
use Rattle.std.proofs.lemmas.Map.Steps.{set_value_same}
use Rattle.std.proofs.lemmas.Result.{err_from_is_err_and}
use Rattle.sq_lookup.specs.Index.{row_at, rows_of, listed_by}
use Rattle.sq_lookup.specs.declared.rows.Row.{Row}
use Rattle.sq_lookup.proofs.MapLaws.{number_found, number_after}
use Rattle.sq_lookup.proofs.RowLaws.{rows_kept, listed_if, listed_more}
use Rattle.sq_lookup.proofs.rows.Rows.add.Goals as goal

pub returns-clause-rows : goal.returns-clause-rows
returns-clause-rows c =
    let w : Row = record { key = c.in-Some.row.now.key; checks = c.add.new.self } in
    rw (← c.self.view_is)
    (ap rows_of (c.get_mut.follows.holds w).0
    ∙ rows_kept (is_at (nat_cmp c.args.question)) c.self.inside.map.entries c.in-Some.row.now w c.in-Some.ensures.value
    refl)

pub returns-in_err-add-in-Some-clause-rows : goal.returns-in_err-add-in-Some-clause-rows
returns-in_err-add-in-Some-clause-rows c =
    let w : Row = record { key = c.in-Some.row.now.key; checks = c.add.new.self } in
    rw (← c.self.view_is)
    (ap rows_of (c.get_mut.follows.holds w).0
    ∙ rows_kept (is_at (nat_cmp c.args.question)) c.self.inside.map.entries c.in-Some.row.now w c.in-Some.ensures.value
    refl)

pub returns-in_err-add-in-Some-clause-err : goal.returns-in_err-add-in-Some-clause-err
returns-in_err-add-in-Some-clause-err c =
    let w : Row = record { key = c.in-Some.row.now.key; checks = c.add.new.self } in
    let p = err_from_is_err_and c.from_residual.result c.from_residual.ensures.1 in
    let same : w ≡ c.in-Some.row.now =
    ap (λ (l : List ℕ). record { key = c.in-Some.row.now.key; checks = l }) c.in_err-add-in-Some.ensures.err in
    rw (p.1, ← c.self.view_is)
    ((c.get_mut.follows.holds w).0
    ∙ set_value_same (is_at (nat_cmp c.args.question)) c.self.inside.map.entries w
    (sym c.in-Some.ensures.value ∙ ap (λ (r : Row). Some r) (sym same)))

pub returns-clause-lists : goal.returns-clause-lists
returns-clause-lists c = λ q n.
    let w : Row = record { key = c.in-Some.row.now.key; checks = c.add.new.self } in
    let here : row_at c.self.inside.map.entries c.args.question ≡ Some c.in-Some.row.now =
    number_found c.args.question c.self.inside.map.entries ∙ sym c.in-Some.ensures.value in
    rw (← c.self.view_is)
    (ap (λ o. listed_by o n)
    (number_after q c.args.question (Some w) c.self.inside.map.entries (c.get_mut.follows.lender w).entries
    (((c.get_mut.follows.holds w).3 (search rules)).0 q))
    ∙ listed_if (q == c.args.question) w (row_at c.self.inside.map.entries q) n
    ∙ listed_more q c.args.question n c.args.check c.self.inside.map.entries c.in-Some.row.now w here
    (c.in_ok-add-in-Some.ensures.ok n))
