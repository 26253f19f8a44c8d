use Rattle.std.proofs.Common.{refl, inl}
use Rattle.sq_turns.proofs.CarryLaws.{answers_own, answers_judged, cause_client}
use Rattle.sq_turns.proofs.GoesLaws.{was_told}
use Rattle.sq_turns.proofs.OwnReplyLaws.{tells_as}
use Rattle.sq_session.proofs.turning.answer.Goals as goal

pub returns-in-Ok-clause-told : goal.returns-in-Ok-clause-told
returns-in-Ok-clause-told g c =
    let v = c.in-Ok.ensures.settles in
    answers_judged c.args.request.now c.args.addr c.in-Ok.plan c.in-Ok.judged v.hosts v.planned
    c.in-Ok.ensures.granted v.same v.told c.obey.ensures.told

pub returns-in-Err-clause-told : goal.returns-in-Err-clause-told
returns-in-Err-clause-told g c =
    let v = c.in-Err.ensures.settles in
    answers_own c.args.request.now c.args.addr v.answers c.in-Err.own (v.turn c.args.addr) v.judges v.told
    (tells_as c.in-Err.own c.is_head.result _ c.is_head.ensures c.say.ensures.tells)
    (g.met.F.Meter.capped c.args.front.now) c.in-Err.ensures.granted

pub returns-in-Err-clause-cause : goal.returns-in-Err-clause-cause
returns-in-Err-clause-cause g c = cause_client _ _ _ c.say.result c.say.ensures.cause

pub returns-in-Err-clause-dialled : goal.returns-in-Err-clause-dialled
returns-in-Err-clause-dialled g c = was_told _

pub returns-in-Err-clause-calls : goal.returns-in-Err-clause-calls
returns-in-Err-clause-calls g c = inl refl
