use Rattle.std.proofs.Common.{◌≡◌, Some, slice_get, refl, sym, ap, ◌∙◌, arith, set, true}
use Rattle.std.proofs.lemmas.Grind.{common_steps}
use Rattle.std.proofs.lemmas.Option.{slice_get_read}
use Rattle.sq_rules.proofs.TableLaws.{KnowsAcls_member, changed_at}
use Rattle.sq_rules.specs.Changes.{AreDepths, AreSlowOnes, with_member_at}
use Rattle.sq_rules.specs.Configurations.{are_shallow}
use Rattle.sq_rules.specs.Drafts.{with_member}
use Rattle.sq_rules.proofs.acl_table.AclTable.add_member.Goals as goal

pub invariant_of-self-2 : goal.invariant_of-self-2
invariant_of-self-2 c =
    let acls = c.self.inside.acls.items in
    let x = c.index_mut.result.now in
    let is : slice_get acls c.args.place ≡ Some x =
    slice_get_read acls _ c.args.place x refl (grind (arith, common_steps)) c.index_mut.ensures.value in
    let place = c.args.place in
    let deep : AreDepths c.in_ok-depths.depths acls (with_member_at place c.args.term acls) =
    grind (arith, common_steps, c.in_ok-depths.ensures.ok, c.as_slice-acls.ensures.value) in
    let asks : AreSlowOnes c.args.slow acls (with_member_at place c.args.term acls) =
    rw c.self.view_is c.requires.slow in
    let shallow : are_shallow (with_member_at place c.args.term acls) ≡ true =
    grind (arith, common_steps, c.in_ok-depths.ensures.shallow, c.as_slice-acls.ensures.value) in
    rw (c.renew.ensures, c.renew-2.ensures)
    (KnowsAcls_member acls c.self.inside.places c.self.inside.nestings.items c.self.inside.slow.items
    c.self.inside.unmade c.args.place c.args.term x c.add_member.new.self c.in_ok-depths.depths c.args.slow
    c.self.invariant is c.in_ok-add_member.ensures.ok deep asks shallow)

pub returns-clause-ok : goal.returns-clause-ok
returns-clause-ok c =
    let acls = c.self.inside.acls.items in
    let x = c.index_mut.result.now in
    let is : slice_get acls c.args.place ≡ Some x =
    slice_get_read acls _ c.args.place x refl (grind (arith, common_steps)) c.index_mut.ensures.value in
    rw (← c.self.view_is) (ap (set acls c.args.place) c.in_ok-add_member.ensures.ok
    ∙ sym (changed_at acls c.args.place x (with_member c.args.term) is))
