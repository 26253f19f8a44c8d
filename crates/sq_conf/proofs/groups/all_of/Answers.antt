use Rattle.std.proofs.Common.{◌≡◌, true, sym, subst, ◌∙◌}
use Rattle.sq_conf.proofs.GroupLaws.{takes_all}
use Rattle.sq_rules.specs.AclLines.{has_type}
use Rattle.sq_rules.specs.declared.acl_types.AclType.TheVariants as type
use Rattle.sq_conf.proofs.groups.all_of.Goals as goal

pub open_line-requires-clause-group : goal.open_line-requires-clause-group
open_line-requires-clause-group c =
    let d = c.args.builder.now in
    takes_all d.dst_lookup d.acls c.args.name.now c.in-Some.place (sym c.in-Some.is ∙ c.requires.target.place_is)
    c.requires.target.word
    (subst (λ o. has_type d.acls type.AllOf o ≡ true) c.in-Some.is c.requires.kind)
