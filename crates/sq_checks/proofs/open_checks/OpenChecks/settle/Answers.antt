use Rattle.std.proofs.Common.{◌≡◌, ◌∙◌, ap, sym, Some}
use Rattle.std.specs.BTreeMap.{is_at}
use Rattle.std.specs.Map.{set_value}
use Rattle.std.specs.Ordering.{nat_cmp}
use Rattle.std.proofs.lemmas.Map.Steps.{set_value_same}
use Rattle.std.proofs.lemmas.Result.{err_from_is_err_and}
use Rattle.sq_checks.specs.OpenChecks.{CheckParts, rows_of, settled}
use Rattle.sq_checks.specs.Tables.{value_at}
use Rattle.sq_checks.proofs.CheckLaws.{row_settled}
use Rattle.sq_checks.proofs.MapLaws.{absent_is, rows_stay, set_changed, sorted_once, unchanged}
use Rattle.sq_checks.proofs.open_checks.OpenChecks.settle.Goals as goal

pub returns-in_default-clause-list : goal.returns-in_default-clause-list
returns-in_default-clause-list c =
    let es = c.self.inside.map.entries in
    rw (← c.self.view_is, c.get_mut.follows.holds-at-none)
    (sym (unchanged c.args.number settled es (absent_is c.args.number es (sym c.in_default.ensures.value))))

pub returns-in_err-settle-clause-err : goal.returns-in_err-settle-clause-err
returns-in_err-settle-clause-err c =
    let p = err_from_is_err_and c.from_residual.result c.from_residual.ensures.1 in
    let es = c.self.inside.map.entries in
    let w = c.settle.new.self in
    rw (p.1, ← c.self.view_is)
    ((c.get_mut.follows.holds w).0
    ∙ set_value_same (is_at (nat_cmp c.args.number)) es w
    (sym c.in-Some.ensures.value ∙ ap (λ (r : CheckParts). Some r) (sym c.in_err-settle.ensures.err)))

pub returns-clause-list : goal.returns-clause-list
returns-clause-list c =
    let es = c.self.inside.map.entries in
    let here : value_at es c.args.number ≡ Some c.in-Some.check.now = sym c.in-Some.ensures.value in
    rw (← c.self.view_is)
    ((c.get_mut.follows.holds c.settle.new.self).0
    ∙ ap (set_value (is_at (nat_cmp c.args.number)) es) c.in_ok-settle.ensures.ok
    ∙ set_changed c.args.number settled c.in-Some.check.now es (sorted_once es c.in-Some.ensures.ordered) here)

pub returns-clause-rows : goal.returns-clause-rows
returns-clause-rows c =
    let es = c.self.inside.map.entries in
    let here : value_at es c.args.number ≡ Some c.in-Some.check.now = sym c.in-Some.ensures.value in
    rw (← c.self.view_is)
    (ap rows_of ((c.get_mut.follows.holds c.settle.new.self).0
    ∙ ap (set_value (is_at (nat_cmp c.args.number)) es) c.in_ok-settle.ensures.ok
    ∙ set_changed c.args.number settled c.in-Some.check.now es (sorted_once es c.in-Some.ensures.ordered) here)
    ∙ rows_stay c.args.number settled es row_settled)
