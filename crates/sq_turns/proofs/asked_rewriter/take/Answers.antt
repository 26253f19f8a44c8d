use Rattle.std.proofs.Common.{Some, Ok, rules, ◌∙◌, arith}
use Rattle.sq_turns.proofs.RewriteLaws.{tells_refused, tells_taken, tells_untaken, tells_unwaited}
use Rattle.sq_turns.proofs.asked_rewriter.take.Goals as goal

pub loop-init : goal.loop-init
loop-init g c = record {
  waited = tells_unwaited _;
  asked = search rules;
  refused_later = omega arith;
  granted = search rules;
}

pub returns-in-Ok-Some-clause-told : goal.returns-in-Ok-Some-clause-told
returns-in-Ok-Some-clause-told g c = tells_taken c.args.question c.in-Ok-Some.rewriting _ _ _ c.loop.invariant.waited
    (rw c.in-Ok-Some.field-0-is at c.in-Ok-Some.ensures.told)

pub returns-in-Err-clause-told : goal.returns-in-Err-clause-told
returns-in-Err-clause-told g c = tells_refused c.args.question c.in-Err.fault _ _ _ c.loop.invariant.waited
    c.in-Err.ensures.told

pub loop-preserved : goal.loop-preserved
loop-preserved g c =
    let inv = c.loop.invariant in
    record {
      waited = tells_untaken c.args.question _ _ _ _ inv.waited
          (rw c.in-Ok-None.field-0-is at c.in-Ok-None.ensures.told)
          c.wait.ensures.told;
      asked = c.wait.ensures.asked ∙ c.take_rewrite.ensures.asked ∙ inv.asked;
      refused_later = omega (
        arith,
        inv.refused_later,
        c.take_rewrite.ensures.refused_later,
        c.wait.ensures.refused_later,
      );
      granted = c.wait.ensures.granted ∙ c.take_rewrite.ensures.granted ∙ inv.granted;
    }
