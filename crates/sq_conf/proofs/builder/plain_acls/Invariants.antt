use Rattle.std.proofs.Common.{◌≡◌, ◌++◌, map}
use Rattle.sq_rules.specs.Drafts.{leaf_of, predefined_ones}
use Rattle.sq_rules.specs.declared.parts.AclPart.{AclPart}
use Rattle.sq_conf.proofs.builder.plain_acls.Given as goal

abbrev pub invariant-loop-part : goal.invariant-loop-part
invariant-loop-part l = l.acls
    ++ map (λ (a : AclPart). record { name = a.name; body = leaf_of a.body }) l.part-iterator.rest.items
    ≡ predefined_ones
