use Rattle.std.proofs.Common.{◌≡◌, ◌∙◌, ap, sym, subst, refl, true, Some, IfSome}
use Rattle.std.specs.BTreeMap.{is_at}
use Rattle.std.specs.Map.{set_value}
use Rattle.std.specs.Ordering.{nat_cmp}
use Rattle.sq_checks.specs.OpenChecks.{HasCome, looked, rows_of}
use Rattle.sq_checks.specs.Stages.{is_settled}
use Rattle.sq_checks.specs.Tables.{value_at}
use Rattle.sq_checks.proofs.CheckLaws.{found_has, ok_then}
use Rattle.sq_checks.proofs.MapLaws.{rows_stay, set_changed, sorted_once, value_changed}
use Rattle.sq_checks.proofs.open_checks.OpenChecks.come_on.Goals as goal

pub come_to-requires : goal.come_to-requires
come_to-requires g c =
    let here : value_at c.args.self.now c.args.number ≡ Some c.in-Some.check.now =
    rw (← c.self.view_is) (sym c.in-Some.ensures.value) in
    found_has (λ x. is_settled x.stage ≡ true) _ _ here c.requires.settled

pub returns-clause-list : goal.returns-clause-list
returns-clause-list g c =
    let es = c.self.inside.map.entries in
    let here : value_at es c.args.number ≡ Some c.in-Some.check.now = sym c.in-Some.ensures.value in (
      c.come_to.ensures.same.0,
      rw (← c.self.view_is)
          ((c.get_mut.follows.holds c.come_to.new.self).0
          ∙ ap (set_value (is_at (nat_cmp c.args.number)) es) c.come_to.ensures.same.3
          ∙ set_changed c.args.number (looked c.come_to.ensures.same.0) c.in-Some.check.now es
          (sorted_once es c.in-Some.ensures.ordered) here),
    )

pub returns-clause-rows : goal.returns-clause-rows
returns-clause-rows g c =
    let es = c.self.inside.map.entries in
    let here : value_at es c.args.number ≡ Some c.in-Some.check.now = sym c.in-Some.ensures.value in
    rw (← c.self.view_is)
    (ap rows_of ((c.get_mut.follows.holds c.come_to.new.self).0
    ∙ ap (set_value (is_at (nat_cmp c.args.number)) es) c.come_to.ensures.same.3
    ∙ set_changed c.args.number (looked c.come_to.ensures.same.0) c.in-Some.check.now es
    (sorted_once es c.in-Some.ensures.ordered) here)
    ∙ rows_stay c.args.number (looked c.come_to.ensures.same.0) es (λ n k. refl))

pub returns-clause-come : goal.returns-clause-come
returns-clause-come g c =
    let es = c.self.inside.map.entries in
    let x = c.in-Some.check.now in
    let y = c.come_to.new.self in
    let here : value_at es c.args.number ≡ Some x = sym c.in-Some.ensures.value in
    let found =
    ap (λ z. value_at z c.args.number)
    ((c.get_mut.follows.holds y).0 ∙ ap (set_value (is_at (nat_cmp c.args.number)) es) c.come_to.ensures.same.3
    ∙ set_changed c.args.number (looked c.come_to.ensures.same.0) x es (sorted_once es c.in-Some.ensures.ordered) here)
    ∙ value_changed c.args.number (looked c.come_to.ensures.same.0) x es here
    ∙ ap Some (sym c.come_to.ensures.same.3) in
    ok_then c.come_to.result (HasCome y) (λ v. IfSome (value_at _ c.args.number) (λ k. HasCome k v))
    (λ v h. subst (λ z. IfSome z (λ k. HasCome k v)) (sym found) h) c.come_to.ensures.come
