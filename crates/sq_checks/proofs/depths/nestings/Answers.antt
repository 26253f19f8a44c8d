use Rattle.std.proofs.Common.{◌≡◌, false, sym, ◌∙◌, arith}
use Rattle.std.proofs.lemmas.Grind.{common_steps}
use Rattle.sq_rules.proofs.TableLaws.{too_deep_at}
use Rattle.sq_rules.specs.Configurations.{are_shallow}
use Rattle.sq_checks.proofs.depths.nestings.Goals as goal

pub unreachable-requires : goal.unreachable-requires
unreachable-requires c =
    let deep : are_shallow c.args.acls.now ≡ false =
    too_deep_at c.loop-acl.all.items c.args.acls.now c.loop-acl.acl-index c.acl-item.result _ c.loop-acl.invariant
    (grind (arith, common_steps)) c.acl-item.is (grind (arith, common_steps, c.nesting_of.ensures, c.in-None.is)) in
    let no = sym deep ∙ c.requires in absurd (cc)
