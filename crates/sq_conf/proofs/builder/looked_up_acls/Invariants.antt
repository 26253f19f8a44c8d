use Rattle.std.proofs.Common.{◌≡◌, ◌∷◌, [], map, true}
use Rattle.sq_rules.specs.Drafts.{leaf_of, predefined_ones, with_firsts}
use Rattle.sq_rules.specs.Lookups.{begins_literal, literal_acl}
use Rattle.sq_rules.specs.declared.parts.AclPart.{AclPart}
use Rattle.sq_conf.proofs.builder.looked_up_acls.Given as goal

abbrev pub invariant-loop-part : goal.invariant-loop-part
invariant-loop-part l = record {
  all : with_firsts l.acls
      (map (λ (a : AclPart). record { name = a.name; body = leaf_of a.body }) l.part-iterator.rest.items)
      ≡ with_firsts (literal_acl ∷ []) predefined_ones;
  first : begins_literal l.acls ≡ true;
}
