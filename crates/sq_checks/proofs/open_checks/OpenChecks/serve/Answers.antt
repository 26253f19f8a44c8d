use Rattle.std.proofs.Common.{◌≡◌, ◌∙◌, ap, sym, Some}
use Rattle.std.specs.BTreeMap.{is_at}
use Rattle.std.specs.Map.{set_value}
use Rattle.std.specs.Ordering.{nat_cmp}
use Rattle.sq_checks.specs.OpenChecks.{ended_by}
use Rattle.sq_checks.specs.Tables.{value_at}
use Rattle.sq_checks.proofs.MapLaws.{absent_is, set_changed, sorted_once, unchanged}
use Rattle.sq_checks.proofs.open_checks.OpenChecks.serve.Goals as goal

pub returns-in_default : goal.returns-in_default
returns-in_default c =
    let es = c.self.inside.map.entries in
    rw (← c.self.view_is, c.get_mut.follows.holds-at-none)
    (sym (unchanged c.args.number (ended_by c.args.question c.args.what c.args.now) es
    (absent_is c.args.number es (sym c.in_default.ensures.value))))

pub returns : goal.returns
returns c =
    let es = c.self.inside.map.entries in
    let here : value_at es c.args.number ≡ Some c.in-Some.check.now = sym c.in-Some.ensures.value in
    rw (← c.self.view_is)
    ((c.get_mut.follows.holds c.serve.new.self).0 ∙ ap (set_value (is_at (nat_cmp c.args.number)) es) c.serve.ensures
    ∙ set_changed c.args.number (ended_by c.args.question c.args.what c.args.now) c.in-Some.check.now es
    (sorted_once es c.in-Some.ensures.ordered) here)
