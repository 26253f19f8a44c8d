use Rattle.std.proofs.Common.{◌≡◌, ◌∙◌, ap, sym, Some}
use Rattle.std.specs.BTreeMap.{is_at}
use Rattle.std.specs.Map.{set_value}
use Rattle.std.specs.Ordering.{nat_cmp}
use Rattle.sq_model.specs.CheckRows.{stepped}
use Rattle.sq_checks.specs.OpenChecks.{rows_of, says_waits, waited}
use Rattle.sq_checks.specs.Stages.{question_in}
use Rattle.sq_checks.specs.Tables.{value_at}
use Rattle.sq_checks.proofs.CheckLaws.{found_has, row_waited}
use Rattle.sq_checks.proofs.MapLaws.{row_changed, set_changed, sorted_once}
use Rattle.sq_checks.proofs.open_checks.OpenChecks.wait_on.Goals as goal

pub returns-clause-list : goal.returns-clause-list
returns-clause-list c =
    let es = c.self.inside.map.entries in
    let here : value_at es c.args.number ≡ Some c.in-Some.check.now = sym c.in-Some.ensures.value in
    rw (← c.self.view_is)
    ((c.get_mut.follows.holds c.wait_on.new.self).0
    ∙ ap (set_value (is_at (nat_cmp c.args.number)) es) c.wait_on.ensures
    ∙ set_changed c.args.number waited c.in-Some.check.now es (sorted_once es c.in-Some.ensures.ordered) here)

pub returns-clause-rows : goal.returns-clause-rows
returns-clause-rows c = λ q waits.
    let es = c.self.inside.map.entries in
    let x = c.in-Some.check.now in
    let here : value_at es c.args.number ≡ Some x = sym c.in-Some.ensures.value in
    let is : question_in x.stage ≡ Some q =
    found_has (λ y. question_in y.stage ≡ Some q) (value_at c.args.self.now c.args.number) x
    (rw (← c.self.view_is) here) waits in
    rw (← c.self.view_is)
    (ap rows_of ((c.get_mut.follows.holds c.wait_on.new.self).0
    ∙ ap (set_value (is_at (nat_cmp c.args.number)) es) c.wait_on.ensures
    ∙ set_changed c.args.number waited x es (sorted_once es c.in-Some.ensures.ordered) here)
    ∙ row_changed c.args.number waited (stepped (says_waits q)) x es (sorted_once es c.in-Some.ensures.ordered) here
    (row_waited c.args.number q x is))
