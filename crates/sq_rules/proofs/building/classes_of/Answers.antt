use Rattle.std.proofs.Common.{arith}
use Rattle.std.proofs.lemmas.Grind.{common_steps}
use Rattle.sq_rules.proofs.NameLaws.{place_tells}
use Rattle.sq_rules.proofs.building.classes_of.Goals as goal

pub loop-part-preserved : goal.loop-part-preserved
loop-part-preserved c = record {
  made = grind (arith, common_steps, place_tells, c.in_ok-push.ensures.ok, c.loop-part.invariant.made);
  count = grind (arith, common_steps, c.in_ok-push.ensures.ok);
}
