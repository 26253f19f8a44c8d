use Rattle.std.proofs.Common.{arith}
use Rattle.std.proofs.lemmas.Grind.{common_steps}
use Rattle.sq_urlmatch.proofs.programs.single_programs.Goals as goal

pub loop-find-preserved : goal.loop-find-preserved
loop-find-preserved c = record {
  found = λ text bytes. grind (
    arith,
    common_steps,
    c.loop-find.invariant.found text bytes,
    c.in_ok-program.ensures text bytes,
    c.find-item.is,
    c.in-Ok.ensures.items,
  );
  good = grind (arith, common_steps, c.loop-find.invariant.good);
}
