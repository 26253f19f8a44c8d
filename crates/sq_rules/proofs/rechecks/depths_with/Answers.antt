use Rattle.std.proofs.Common.{◌≡◌, length, Some, false, slice_get, refl, sym, ap, subst, ◌∙◌, arith}
use Rattle.std.proofs.lemmas.Grind.{common_steps}
use Rattle.std.proofs.lemmas.List.{length-take-le}
use Rattle.std.proofs.lemmas.Option.{slice_get_read}
use Rattle.std.specs.List.{list_all}
use Rattle.std.specs.Prelude.{nat_le, IfErr}
use Rattle.sq_rules.proofs.TableLaws.{depth_kept, depths_risen, nestings_length, too_deep_over}
use Rattle.sq_rules.specs.Limits.{nesting_limit}
use Rattle.sq_rules.specs.declared.member_faults.MemberFault.TheVariants.{Deep}
use Rattle.sq_rules.proofs.rechecks.depths_with.Goals as goal

pub slice_bounds-nesting_at-end : goal.slice_bounds-nesting_at-end
slice_bounds-nesting_at-end c = sym
    (length-take-le c.args.place c.args.depths.now
    (omega (arith, ap length c.requires.known, nestings_length c.args.acls.now)))

pub returns-then-not-grows-clause-ok : goal.returns-then-not-grows-clause-ok
returns-then-not-grows-clause-ok c =
    let acls = c.args.acls.now in
    let x = c.index-acls-place.result in
    let is : slice_get acls c.args.place ≡ Some x =
    slice_get_read acls _ c.args.place x refl c.requires.within c.index-acls-place.is in
    depth_kept acls c.args.place c.args.term x is
    (λ group. rw (← c.requires.known)
    (grind (arith, common_steps, c.is_group-grows.ensures, c.nesting_at-below.ensures, c.then-not-grows.either)))

pub returns-then-not-grows-clause-shallow : goal.returns-then-not-grows-clause-shallow
returns-then-not-grows-clause-shallow c = sym
    (ap (list_all (λ n. nat_le n nesting_limit)) (returns-then-not-grows-clause-ok c)) ∙ c.requires.shallow

pub returns-in_default-clause-deep : goal.returns-in_default-clause-deep
returns-in_default-clause-deep c =
    let acls = c.args.acls.now in
    let x = c.index-acls-place.result in
    let is : slice_get acls c.args.place ≡ Some x =
    slice_get_read acls _ c.args.place x refl c.requires.within c.index-acls-place.is in
    λ _. too_deep_over acls c.args.place c.args.term x is
    (grind (arith, common_steps, c.is_group-grows.ensures, c.if-not-grows.false))
    (rw (← c.requires.known)
    (grind (arith, common_steps, c.nesting_at-below.ensures, c.group_over.ensures, c.in_default.is)))

pub returns-in_err-depths_after-clause-deep : goal.returns-in_err-depths_after-clause-deep
returns-in_err-depths_after-clause-deep c =
    let acls = c.args.acls.now in
    let x = c.index-acls-place.result in
    let is : slice_get acls c.args.place ≡ Some x =
    slice_get_read acls _ c.args.place x refl c.requires.within c.index-acls-place.is in
    subst (λ l. IfErr c.from_residual.result (λ e. e ≡ Deep → list_all (λ n. nat_le n nesting_limit) l ≡ false))
    (depths_risen acls c.args.depths.now c.args.place c.args.term x c.nesting_at-below.result c.in-Some.depth
    c.requires.known is (grind (arith, common_steps, c.is_group-grows.ensures, c.if-not-grows.false))
    (grind (arith, common_steps, c.nesting_at-below.ensures))
    (grind (arith, common_steps, c.group_over.ensures, c.in-Some.is))
    (grind (arith, common_steps, c.if-below-depth.false)))
    (grind (arith, common_steps))

pub returns-clause-ok : goal.returns-clause-ok
returns-clause-ok c =
    let acls = c.args.acls.now in
    let x = c.index-acls-place.result in
    let is : slice_get acls c.args.place ≡ Some x =
    slice_get_read acls _ c.args.place x refl c.requires.within c.index-acls-place.is in
    c.in_ok-depths_after.ensures.ok
    ∙ depths_risen acls c.args.depths.now c.args.place c.args.term x c.nesting_at-below.result c.in-Some.depth
    c.requires.known is (grind (arith, common_steps, c.is_group-grows.ensures, c.if-not-grows.false))
    (grind (arith, common_steps, c.nesting_at-below.ensures))
    (grind (arith, common_steps, c.group_over.ensures, c.in-Some.is))
    (grind (arith, common_steps, c.if-below-depth.false))

pub returns-clause-shallow : goal.returns-clause-shallow
returns-clause-shallow c = sym (ap (list_all (λ n. nat_le n nesting_limit)) (returns-clause-ok c))
    ∙ c.in_ok-depths_after.ensures.shallow
