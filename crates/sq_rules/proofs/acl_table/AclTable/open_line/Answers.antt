use Rattle.std.proofs.Common.{◌≡◌, Some, slice_get, refl, arith}
use Rattle.std.proofs.lemmas.Grind.{common_steps}
use Rattle.std.proofs.lemmas.Option.{slice_get_read}
use Rattle.sq_rules.proofs.MemberLaws.{line_depth, line_slow}
use Rattle.sq_rules.proofs.TableLaws.{KnowsAcls_set, changed_by, kept_by}
use Rattle.sq_rules.specs.Configurations.{is_slow, nesting_of}
use Rattle.sq_rules.specs.Drafts.{with_line}
use Rattle.sq_rules.proofs.acl_table.AclTable.open_line.Goals as goal

pub invariant_of-self : goal.invariant_of-self
invariant_of-self c =
    let acls = c.self.inside.acls.items in
    let x = c.index_mut.result.now in
    let y = c.open_line.new.self in
    let is : slice_get acls c.args.place ≡ Some x =
    slice_get_read acls _ c.args.place x refl (grind (arith, common_steps)) c.index_mut.ensures.value in
    KnowsAcls_set acls c.self.inside.places c.self.inside.nestings.items c.self.inside.slow.items c.self.inside.unmade
    c.args.place x y c.self.invariant is c.open_line.ensures.named
    (λ before. kept_by c.open_line.result x y (with_line x.body) (nesting_of before) c.open_line.ensures.ok
    c.open_line.ensures.err (line_depth before x.body))
    (λ before. kept_by c.open_line.result x y (with_line x.body) (is_slow before) c.open_line.ensures.ok
    c.open_line.ensures.err (line_slow before x.body))

pub returns-clause-ok : goal.returns-clause-ok
returns-clause-ok c =
    let acls = c.self.inside.acls.items in
    let x = c.index_mut.result.now in
    let is : slice_get acls c.args.place ≡ Some x =
    slice_get_read acls _ c.args.place x refl (grind (arith, common_steps)) c.index_mut.ensures.value in
    rw (← c.self.view_is) (changed_by c.open_line.result acls c.args.place x c.open_line.new.self with_line is
    c.open_line.ensures.ok)
