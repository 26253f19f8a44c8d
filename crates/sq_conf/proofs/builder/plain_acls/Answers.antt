use Rattle.std.proofs.Common.{◌≡◌, List, ◌++◌, ◌∷◌, length, map, true, ap, sym, ◌∙◌, arith}
use Rattle.std.proofs.lemmas.List.{length-append}
use Rattle.sq_rules.proofs.NameLaws.{own_free}
use Rattle.sq_rules.specs.Configurations.{have_own_names}
use Rattle.sq_rules.specs.Drafts.{leaf_of, predefined_ones}
use Rattle.sq_rules.specs.declared.configs.Acl.{Acl}
use Rattle.sq_rules.specs.declared.parts.AclPart.{AclPart}
use Rattle.sq_conf.proofs.builder.plain_acls.Goals as goal

abbrev acl_of : AclPart → Acl
acl_of a = record { name = a.name; body = leaf_of a.body }

pub push-requires-clause-few : goal.push-requires-clause-few
push-requires-clause-few c =
    let all : length (c.loop-part.acls ++ map acl_of c.loop-part.part-iterator.rest.items) ≡ 6 =
    ap length c.loop-part.invariant in
    omega (arith, all, length-append c.loop-part.acls (map acl_of c.loop-part.part-iterator.rest.items))

pub push-requires-clause-free : goal.push-requires-clause-free
push-requires-clause-free c =
    let acls = c.loop-part.acls in
    let x : Acl = acl_of c.in-Some.part in
    let rest : List Acl = map acl_of c.next.new.self.rest.items in
    let items : c.loop-part.part-iterator.rest.items ≡ c.in-Some.part ∷ c.next.new.self.rest.items =
    c.in-Some.ensures.steps.0 in
    let all : acls ++ x ∷ rest ≡ predefined_ones = ap (λ l. acls ++ map acl_of l) (sym items) ∙ c.loop-part.invariant in
    let own : have_own_names (λ (a : Acl). a.name) (acls ++ x ∷ rest) ≡ true =
    ap (have_own_names (λ (a : Acl). a.name)) all in
    own_free (λ (a : Acl). a.name) 0 acls rest x own
