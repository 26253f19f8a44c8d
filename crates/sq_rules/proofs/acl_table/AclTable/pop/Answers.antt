use Rattle.std.proofs.Common.{◌≡◌, ◌-◌, length, take, subst, arith}
use Rattle.std.proofs.lemmas.Grind.{common_steps}
use Rattle.std.specs.Vec.{vec_len}
use Rattle.sq_rules.proofs.PopLaws.{KnowsAcls_pop}
use Rattle.sq_rules.proofs.acl_table.AclTable.pop.Goals as goal

pub invariant_of-self-2 : goal.invariant_of-self-2
invariant_of-self-2 c =
    let depths = c.self.inside.nestings in
    let slow = c.self.inside.slow in
    let many : vec_len depths ≡ length depths.items = grind (arith, common_steps) in
    let flags : vec_len slow ≡ length slow.items = grind (arith, common_steps) in
    rw c.saturating_sub-self-inside.ensures
    (KnowsAcls_pop c.self.inside.acls.items c.pop.new.self.items c.in-Some.acl c.self.inside.places c.remove.new.self
    depths.items c.pop-2.new.self.items slow.items c.pop-3.new.self.items
    c.self.inside.unmade c.counted.result c.self.invariant c.in-Some.ensures.items
    (subst (λ n. c.pop-2.new.self.items ≡ take (n - 1) depths.items) many c.pop-2.ensures.rest)
    (subst (λ n. c.pop-3.new.self.items ≡ take (n - 1) slow.items) flags c.pop-3.ensures.rest)
    c.remove.ensures c.counted.ensures)
