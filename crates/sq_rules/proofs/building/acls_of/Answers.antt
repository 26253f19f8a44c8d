use Rattle.std.proofs.Common.{◌≡◌, ◌+◌, ◌∷◌, arith, refl, subst}
use Rattle.std.proofs.lemmas.Grind.{common_steps}
use Rattle.sq_rules.proofs.NameLaws.{place_tells}
use Rattle.sq_rules.proofs.AclLaws.{known_longer}
use Rattle.sq_rules.proofs.LookupLaws.{unmade_next}
use Rattle.sq_rules.specs.Lookups.{unmade, unmade_acls}
use Rattle.sq_rules.specs.declared.configs.Acl.{Acl}
use Rattle.sq_rules.specs.declared.parts.AclPart.{AclPart}
use Rattle.sq_rules.proofs.building.acls_of.Goals as goal

pub loop-part-preserved : goal.loop-part-preserved
loop-part-preserved c = record {
  made = grind (arith, common_steps, place_tells, c.in_ok-with.ensures.made, c.loop-part.invariant.made);
  count = grind (arith, common_steps, c.in_ok-with.ensures.longer);
  unmade =
      let items : c.loop-part.part-iterator.rest.items ≡ c.in-Some.part ∷ c.next.new.self.rest.items =
      grind (arith, common_steps, c.in-Some.ensures.steps) in
      unmade_next (λ (a : Acl). a.name) (λ (p : AclPart). p.name) c.loop-part.acls c.with.new.self
      (record { name = c.in-Some.part.name; body = c.in_ok-body.body }) c.in-Some.part c.next.new.self.rest.items
      (unmade (λ (p : AclPart). p.name) c.args.parts) c.in_ok-with.ensures.longer refl
      (subst (λ l. unmade_acls c.loop-part.acls + unmade (λ (p : AclPart). p.name) l
      ≡ unmade (λ (p : AclPart). p.name) c.args.parts) items c.loop-part.invariant.unmade);
  known =
      rw c.in_ok-with.ensures.longer
      (known_longer _ 0 _ c.loop-part.acls _ c.loop-part.invariant.known (omega arith) c.in_ok-body.ensures.known);
}
