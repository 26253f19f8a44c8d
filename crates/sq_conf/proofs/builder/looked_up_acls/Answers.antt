use Rattle.std.proofs.Common.{◌≡◌, List, ◌∷◌, map, sym, ap, ◌∙◌}
use Rattle.sq_conf.proofs.FirstLaws.{next_begins, next_few, next_free, next_made}
use Rattle.sq_rules.specs.Drafts.{leaf_of, with_first, with_firsts}
use Rattle.sq_rules.specs.declared.configs.Acl.{Acl}
use Rattle.sq_rules.specs.declared.configs.Body.{Body}
use Rattle.sq_rules.specs.declared.parts.AclPart.{AclPart}
use Rattle.sq_conf.proofs.builder.looked_up_acls.Goals as goal

abbrev acl_of : AclPart → Acl
acl_of a = record { name = a.name; body = leaf_of a.body }

-- one more of the parts that come to all
come : (acls all : List Acl) (items rest : List AclPart) (part : AclPart) (b : Body) → items ≡ part ∷ rest
    → b ≡ leaf_of part.body → with_firsts acls (map acl_of items) ≡ all
    → with_firsts (with_first b part.name acls) (map acl_of rest) ≡ all
come acls all items rest part b first same is = ap (λ z. with_firsts (with_first z part.name acls) (map acl_of rest))
    same ∙ ap (λ l. with_firsts acls (map acl_of l)) (sym first) ∙ is

pub with_first-requires-clause-few : goal.with_first-requires-clause-few
with_first-requires-clause-few c =
    next_few c.leaf_body.result c.in-Some.part.name c.loop-part.acls (map acl_of c.next.new.self.rest.items)
    (come c.loop-part.acls _ c.loop-part.part-iterator.rest.items c.next.new.self.rest.items c.in-Some.part
    c.leaf_body.result c.in-Some.ensures.steps.0 c.leaf_body.ensures c.loop-part.invariant.all)

pub with_first-requires-clause-free : goal.with_first-requires-clause-free
with_first-requires-clause-free c =
    next_free c.leaf_body.result c.in-Some.part.name c.loop-part.acls (map acl_of c.next.new.self.rest.items)
    (come c.loop-part.acls _ c.loop-part.part-iterator.rest.items c.next.new.self.rest.items c.in-Some.part
    c.leaf_body.result c.in-Some.ensures.steps.0 c.leaf_body.ensures c.loop-part.invariant.all)

pub with_first-requires-clause-literal : goal.with_first-requires-clause-literal
with_first-requires-clause-literal c dst =
    (next_made c.leaf_body.result c.in-Some.part.name c.loop-part.acls (map acl_of c.next.new.self.rest.items)
    (come c.loop-part.acls _ c.loop-part.part-iterator.rest.items c.next.new.self.rest.items c.in-Some.part
    c.leaf_body.result c.in-Some.ensures.steps.0 c.leaf_body.ensures c.loop-part.invariant.all) dst).literal

pub with_first-requires-clause-lookup : goal.with_first-requires-clause-lookup
with_first-requires-clause-lookup c dst =
    (next_made c.leaf_body.result c.in-Some.part.name c.loop-part.acls (map acl_of c.next.new.self.rest.items)
    (come c.loop-part.acls _ c.loop-part.part-iterator.rest.items c.next.new.self.rest.items c.in-Some.part
    c.leaf_body.result c.in-Some.ensures.steps.0 c.leaf_body.ensures c.loop-part.invariant.all) dst).lookup

pub with_first-requires-clause-named : goal.with_first-requires-clause-named
with_first-requires-clause-named c dst =
    (next_made c.leaf_body.result c.in-Some.part.name c.loop-part.acls (map acl_of c.next.new.self.rest.items)
    (come c.loop-part.acls _ c.loop-part.part-iterator.rest.items c.next.new.self.rest.items c.in-Some.part
    c.leaf_body.result c.in-Some.ensures.steps.0 c.leaf_body.ensures c.loop-part.invariant.all) dst).named

pub loop-part-preserved : goal.loop-part-preserved
loop-part-preserved c = record {
  all = rw c.in_ok-acls-2.ensures
      (come c.loop-part.acls _ c.loop-part.part-iterator.rest.items c.next.new.self.rest.items c.in-Some.part
      c.leaf_body.result c.in-Some.ensures.steps.0 c.leaf_body.ensures c.loop-part.invariant.all);
  first = rw c.in_ok-acls-2.ensures
      (next_begins c.leaf_body.result c.in-Some.part.name c.loop-part.acls c.loop-part.invariant.first);
}
