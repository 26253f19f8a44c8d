use Rattle.std.proofs.Common.{◌≡◌, ◌∙◌, ap, sym, true, Some}
use Rattle.std.specs.BTreeMap.{is_at}
use Rattle.std.specs.Map.{set_value}
use Rattle.std.specs.Ordering.{nat_cmp}
use Rattle.sq_model.specs.CheckRows.{stepped}
use Rattle.sq_machine.specs.StepRule.{says_done}
use Rattle.sq_rules.specs.declared.values.Value.TheVariants as value
use Rattle.sq_checks.specs.OpenChecks.{HasCome, finished, rows_of}
use Rattle.sq_checks.specs.Stages.{is_settled}
use Rattle.sq_checks.specs.Tables.{value_at}
use Rattle.sq_checks.proofs.CheckLaws.{found_has, row_finished}
use Rattle.sq_checks.proofs.MapLaws.{row_changed, set_changed, sorted_once}
use Rattle.sq_checks.proofs.open_checks.OpenChecks.finish.Goals as goal

pub finish-requires-clause-settled : goal.finish-requires-clause-settled
finish-requires-clause-settled c =
    let here : value_at c.args.self.now c.args.number ≡ Some c.in-Some.check.now =
    rw (← c.self.view_is) (sym c.in-Some.ensures.value) in
    found_has (λ x. is_settled x.stage ≡ true) _ _ here c.requires.settled

pub finish-requires-clause-verdict : goal.finish-requires-clause-verdict
finish-requires-clause-verdict c =
    let here : value_at c.args.self.now c.args.number ≡ Some c.in-Some.check.now =
    rw (← c.self.view_is) (sym c.in-Some.ensures.value) in
    found_has (λ x. HasCome x (value.Verdict c.args.outcome)) _ _ here c.requires.verdict

pub returns-clause-list : goal.returns-clause-list
returns-clause-list c =
    let es = c.self.inside.map.entries in
    let here : value_at es c.args.number ≡ Some c.in-Some.check.now = sym c.in-Some.ensures.value in
    rw (← c.self.view_is)
    ((c.get_mut.follows.holds c.finish.new.self).0 ∙ ap (set_value (is_at (nat_cmp c.args.number)) es) c.finish.ensures
    ∙ set_changed c.args.number (finished c.args.outcome) c.in-Some.check.now es
    (sorted_once es c.in-Some.ensures.ordered) here)

pub returns-clause-rows : goal.returns-clause-rows
returns-clause-rows c =
    let es = c.self.inside.map.entries in
    let x = c.in-Some.check.now in
    let here : value_at es c.args.number ≡ Some x = sym c.in-Some.ensures.value in
    let settled : is_settled x.stage ≡ true =
    found_has (λ y. is_settled y.stage ≡ true) (value_at c.args.self.now c.args.number) x (rw (← c.self.view_is) here)
    c.requires.settled in
    rw (← c.self.view_is)
    (ap rows_of ((c.get_mut.follows.holds c.finish.new.self).0
    ∙ ap (set_value (is_at (nat_cmp c.args.number)) es) c.finish.ensures
    ∙ set_changed c.args.number (finished c.args.outcome) x es (sorted_once es c.in-Some.ensures.ordered) here)
    ∙ row_changed c.args.number (finished c.args.outcome) (stepped says_done) x es
    (sorted_once es c.in-Some.ensures.ordered) here (row_finished c.args.number x c.args.outcome settled))
