use Rattle.std.proofs.Common.{◌≡◌, ◌∙◌, ap, sym, false, true, Some}
use Rattle.std.specs.BTreeMap.{is_at}
use Rattle.std.specs.Map.{set_value}
use Rattle.std.specs.Ordering.{nat_cmp}
use Rattle.sq_base.specs.Distinct.{has_answer}
use Rattle.sq_rules.specs.Keys.{key_text}
use Rattle.sq_machine.specs.StepRule.{class_of_acl}
use Rattle.sq_model.specs.CheckRows.{stepped}
use Rattle.sq_checks.specs.Givens.{looks_over}
use Rattle.sq_checks.specs.OpenChecks.{noted, rows_of, says_of}
use Rattle.sq_checks.specs.Stages.{is_idle}
use Rattle.sq_checks.specs.Tables.{value_at}
use Rattle.sq_checks.proofs.CheckLaws.{found_has, row_noted}
use Rattle.sq_checks.proofs.MapLaws.{row_changed, set_changed, sorted_once}
use Rattle.sq_checks.proofs.open_checks.OpenChecks.note.Goals as goal

pub note-requires-clause-idle : goal.note-requires-clause-idle
note-requires-clause-idle c =
    let here : value_at c.args.self.now c.args.number ≡ Some c.in-Some.check.now =
    rw (← c.self.view_is) (sym c.in-Some.ensures.value) in
    found_has (λ x. is_idle x.stage ≡ true) _ _ here c.requires.idle

pub note-requires-clause-of_class : goal.note-requires-clause-of_class
note-requires-clause-of_class c =
    let here : value_at c.args.self.now c.args.number ≡ Some c.in-Some.check.now =
    rw (← c.self.view_is) (sym c.in-Some.ensures.value) in
    found_has (λ x. class_of_acl x.config.acls c.args.acl ≡ Some c.args.class) _ _ here c.requires.of_class

pub note-requires-clause-of_key : goal.note-requires-clause-of_key
note-requires-clause-of_key c =
    let here : value_at c.args.self.now c.args.number ≡ Some c.in-Some.check.now =
    rw (← c.self.view_is) (sym c.in-Some.ensures.value) in
    found_has (λ x. key_text x.config c.args.acl x.sight ≡ c.args.key) _ _ here c.requires.of_key

pub note-requires-clause-other : goal.note-requires-clause-other
note-requires-clause-other c =
    let here : value_at c.args.self.now c.args.number ≡ Some c.in-Some.check.now =
    rw (← c.self.view_is) (sym c.in-Some.ensures.value) in
    found_has (λ x. has_answer x.answers c.args.class c.args.key ≡ false) _ _ here c.requires.other

pub note-requires-clause-looks : goal.note-requires-clause-looks
note-requires-clause-looks c =
    let here : value_at c.args.self.now c.args.number ≡ Some c.in-Some.check.now =
    rw (← c.self.view_is) (sym c.in-Some.ensures.value) in
    found_has (λ x. x.looks ≡ looks_over x.answers x.config x.sight) _ _ here c.requires.looks

pub returns-clause-list : goal.returns-clause-list
returns-clause-list c =
    let es = c.self.inside.map.entries in
    let f = noted c.args.said c.args.class c.args.key in
    let here : value_at es c.args.number ≡ Some c.in-Some.check.now = sym c.in-Some.ensures.value in
    rw (← c.self.view_is)
    ((c.get_mut.follows.holds c.note.new.self).0 ∙ ap (set_value (is_at (nat_cmp c.args.number)) es) c.note.ensures
    ∙ set_changed c.args.number f c.in-Some.check.now es (sorted_once es c.in-Some.ensures.ordered) here)

pub returns-clause-rows : goal.returns-clause-rows
returns-clause-rows c =
    let es = c.self.inside.map.entries in
    let f = noted c.args.said c.args.class c.args.key in
    let g = stepped (says_of c.args.said) in
    let x = c.in-Some.check.now in
    let here : value_at es c.args.number ≡ Some x = sym c.in-Some.ensures.value in
    let idle : is_idle x.stage ≡ true =
    found_has (λ y. is_idle y.stage ≡ true) (value_at c.args.self.now c.args.number) x (rw (← c.self.view_is) here)
    c.requires.idle in
    rw (← c.self.view_is)
    (ap rows_of ((c.get_mut.follows.holds c.note.new.self).0
    ∙ ap (set_value (is_at (nat_cmp c.args.number)) es) c.note.ensures
    ∙ set_changed c.args.number f x es (sorted_once es c.in-Some.ensures.ordered) here)
    ∙ row_changed c.args.number f g x es (sorted_once es c.in-Some.ensures.ordered) here
    (row_noted c.args.number x c.args.said c.args.class c.args.key idle c.requires.said.fits))
