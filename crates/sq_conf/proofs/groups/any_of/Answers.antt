use Rattle.std.proofs.Common.{◌≡◌, true, sym, subst, ◌∙◌}
use Rattle.sq_conf.proofs.GroupLaws.{takes_any}
use Rattle.sq_rules.specs.AclLines.{has_type}
use Rattle.sq_rules.specs.declared.acl_types.AclType.TheVariants as type
use Rattle.sq_conf.proofs.groups.any_of.Goals as goal

pub members-requires-clause-group : goal.members-requires-clause-group
members-requires-clause-group c =
    let d = c.args.builder.now in
    takes_any d.dst_lookup d.acls c.args.name.now c.in-Some.place (sym c.in-Some.is ∙ c.requires.target.place_is)
    c.requires.target.word
    (subst (λ o. has_type d.acls type.AnyOf o ≡ true) c.in-Some.is c.requires.kind)
