use Rattle.std.proofs.Common.{◌≡◌, Some, slice_get, refl, arith}
use Rattle.std.proofs.lemmas.Grind.{common_steps}
use Rattle.std.proofs.lemmas.Option.{slice_get_read}
use Rattle.sq_rules.proofs.MemberLaws.{leaf_depth, leaf_slow}
use Rattle.sq_rules.proofs.TableLaws.{KnowsAcls_set, changed_by, kept_by}
use Rattle.sq_rules.specs.Configurations.{is_slow, nesting_of}
use Rattle.sq_rules.specs.Drafts.{with_leaf}
use Rattle.sq_rules.proofs.acl_table.AclTable.join_leaf.Goals as goal

pub invariant_of-self : goal.invariant_of-self
invariant_of-self c =
    let acls = c.self.inside.acls.items in
    let x = c.index_mut.result.now in
    let y = c.join.new.self in
    let is : slice_get acls c.args.place ≡ Some x =
    slice_get_read acls _ c.args.place x refl (grind (arith, common_steps)) c.index_mut.ensures.value in
    KnowsAcls_set acls c.self.inside.places c.self.inside.nestings.items c.self.inside.slow.items c.self.inside.unmade
    c.args.place x y c.self.invariant is c.join.ensures.named
    (λ before. kept_by c.join.result x y (with_leaf c.args.more x.body) (nesting_of before) c.join.ensures.ok
    c.join.ensures.err (leaf_depth before c.args.more x.body))
    (λ before. kept_by c.join.result x y (with_leaf c.args.more x.body) (is_slow before) c.join.ensures.ok
    c.join.ensures.err (leaf_slow before c.args.more x.body))

pub returns-clause-ok : goal.returns-clause-ok
returns-clause-ok c =
    let acls = c.self.inside.acls.items in
    let x = c.index_mut.result.now in
    let is : slice_get acls c.args.place ≡ Some x =
    slice_get_read acls _ c.args.place x refl (grind (arith, common_steps)) c.index_mut.ensures.value in
    rw (← c.self.view_is) (changed_by c.join.result acls c.args.place x c.join.new.self (with_leaf c.args.more) is
    c.join.ensures.ok)
