use Rattle.std.proofs.Common.{sym}
use Rattle.sq_turns.proofs.VerdictLaws.{recorded_by, unasked, unrecorded}
use Rattle.sq_turns.proofs.verdicts.verdict.Goals as goal

pub returns-in-Err-clause-settles : goal.returns-in-Err-clause-settles
returns-in-Err-clause-settles g c = unasked c.args.request.now c.in-Err.own (sym c.in-Err.ensures)

pub returns-in-Ok-record_of-clause-settles : goal.returns-in-Ok-record_of-clause-settles
returns-in-Ok-record_of-clause-settles g c =
    recorded_by c.args.request.now c.in-Ok.plan c.decide.result c.in-Ok-record_of.judged (sym c.in-Ok.ensures)
    (sym c.in-Ok-record_of.ensures) c.decide.ensures.record c.decide.ensures.told

pub returns-in-Err-record_of-clause-settles : goal.returns-in-Err-record_of-clause-settles
returns-in-Err-record_of-clause-settles g c =
    unrecorded c.args.request.now c.in-Ok.plan c.decide.result c.in-Err-record_of.own (sym c.in-Ok.ensures)
    (sym c.in-Err-record_of.ensures) c.decide.ensures.record c.decide.ensures.told
