use Rattle.std.proofs.Common.{arith, ◌∙◌}
use Rattle.sq_turns.proofs.HubLaws.{failure_later, fails_later, refusal_later, refuses_later}
use Rattle.sq_turns.proofs.TellLaws.{tells_done, tells_step, tells_take, tells_unmade, tells_wait}
use Rattle.sq_turns.proofs.judging.finish.Goals as goal

pub returns-in-Ok-Done-clause-refused : goal.returns-in-Ok-Done-clause-refused
returns-in-Ok-Done-clause-refused g c =
    let inv = c.loop.invariant in
    refuses_later _ _ _ c.take.result (omega (arith, inv.refused_later, c.step.ensures.refused_later))
    c.take.ensures.refused

pub returns-in-Err-clause-refused : goal.returns-in-Err-clause-refused
returns-in-Err-clause-refused g c =
    let inv = c.loop.invariant in
    refusal_later _ _ _ c.in-Err.fault inv.refused_later c.in-Err.ensures.refused

pub returns-in-Ok-Done-clause-failed : goal.returns-in-Ok-Done-clause-failed
returns-in-Ok-Done-clause-failed g c =
    let inv = c.loop.invariant in
    fails_later _ _ _ c.take.result (omega (arith, inv.faults_later, c.step.ensures.faults_later)) c.take.ensures.failed

pub returns-in-Err-clause-failed : goal.returns-in-Err-clause-failed
returns-in-Err-clause-failed g c =
    let inv = c.loop.invariant in
    failure_later _ _ _ c.in-Err.fault inv.faults_later c.in-Err.ensures.failed

pub returns-in-Ok-Done-clause-told : goal.returns-in-Ok-Done-clause-told
returns-in-Ok-Done-clause-told g c =
    tells_take _ c.take.result _ _ _
    (tells_done _ c.in-Ok-Done.field-0 _ _ _ c.in-Ok-Done.field-0-is c.loop.invariant.goes c.in-Ok-Done.ensures.told)
    c.take.ensures.told

pub returns-in-Err-clause-told : goal.returns-in-Err-clause-told
returns-in-Err-clause-told g c = tells_unmade _ c.in-Err.fault _ _ _ c.loop.invariant.goes c.in-Err.ensures.told

pub loop-preserved-in-Ok-Took : goal.loop-preserved-in-Ok-Took
loop-preserved-in-Ok-Took g c =
    let inv = c.loop.invariant in
    record {
      goes = tells_step _ c.in-Ok-Took.field-0 _ _ _ inv.goes c.in-Ok-Took.ensures.told;
      asked = c.step.ensures.asked ∙ inv.asked;
      refused_later = omega (arith, inv.refused_later, c.step.ensures.refused_later);
      faults_later = omega (arith, inv.faults_later, c.step.ensures.faults_later);
      granted = c.step.ensures.granted ∙ inv.granted;
    }

pub loop-preserved : goal.loop-preserved
loop-preserved g c =
    let inv = c.loop.invariant in
    record {
      goes = tells_wait _ _ _ _ (tells_step _ c.in-Ok-Waits.field-0 _ _ _ inv.goes c.in-Ok-Waits.ensures.told)
          c.wait.ensures.told;
      asked = c.wait.ensures.asked ∙ c.step.ensures.asked ∙ inv.asked;
      refused_later = omega (arith, inv.refused_later, c.step.ensures.refused_later, c.wait.ensures.refused_later);
      faults_later = omega (arith, inv.faults_later, c.step.ensures.faults_later, c.wait.ensures.faults_later);
      granted = c.wait.ensures.granted ∙ c.step.ensures.granted ∙ inv.granted;
    }
