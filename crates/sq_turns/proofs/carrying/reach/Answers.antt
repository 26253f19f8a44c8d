use Rattle.std.proofs.Common.{ap}
use Rattle.std.specs.Io.KnownBytes.{prepend_known}
use Rattle.sq_base.specs.Requests.{HttpRequest}
use Rattle.sq_message.specs.declared.own.Own.TheVariants.{BadGateway}
use Rattle.sq_turns.specs.Turns.{access_of}
use Rattle.sq_turns.proofs.CarryLaws.{cause_client, cause_reached, reached_rose}
use Rattle.sq_turns.proofs.PartLaws.{unreached_told, reaches, dialled_told, refused_told, calls_after}
use Rattle.sq_turns.proofs.OwnReplyLaws.{tells_as}
use Rattle.sq_turns.proofs.carrying.reach.Goals as goal

pub returns-in_default-clause-told : goal.returns-in_default-clause-told
returns-in_default-clause-told g c =
    unreached_told (access_of c.args.request.now.judged.now) c.args.request.now.sent.now c.args.request.now.addr
    c.args.request.now.plan
    c.in_default.ensures.cause.failed
    (tells_as BadGateway c.is_head.result _ c.is_head.ensures c.say.ensures.tells)
    (g.met.M.Meter.capped c.args.meter.now) c.in_default.ensures.failed

pub returns-in_default-clause-cause : goal.returns-in_default-clause-cause
returns-in_default-clause-cause g c = cause_client _ _ _ c.say.result c.say.ensures.cause

pub returns-in_default-clause-dialled : goal.returns-in_default-clause-dialled
returns-in_default-clause-dialled g c = refused_told _ _ c.in_default.ensures.failed

pub returns-clause-told : goal.returns-clause-told
returns-clause-told g c =
    reaches (access_of c.args.request.now.judged.now) c.args.request.now.sent.now c.args.request.now.addr
    c.args.request.now.plan _ _ _ _ _ _
    (ap HttpRequest.host c.sent.view_is)
    (ap HttpRequest.port c.sent.view_is) c.in-Ok.ensures.made c.in-Ok.ensures.reaches
    c.forward-carried.ensures.origin_dialled
    (ap (λ l. prepend_known l (g.D.In.Source.left c.in-Ok.from)) c.new.ensures) c.give_back.ensures.given
    c.forward-carried.ensures.told
    (λ f. reached_rose _ _ _ _ _ _ _ c.in-Ok.ensures.fresh.0 c.in-Ok.ensures.fresh.1 c.in-Ok.ensures.cause.quiet
    c.give_back.ensures.cause f)

pub returns-clause-cause : goal.returns-clause-cause
returns-clause-cause g c = cause_reached _ _ _ c.forward-carried.result
    (λ f. reached_rose _ _ _ _ _ _ _ c.in-Ok.ensures.fresh.0 c.in-Ok.ensures.fresh.1 c.in-Ok.ensures.cause.quiet
    c.give_back.ensures.cause f) c.forward-carried.ensures.cause

pub returns-clause-dialled : goal.returns-clause-dialled
returns-clause-dialled g c = dialled_told _ _ _ _ _ c.in-Ok.ensures.made c.give_back.ensures.given

pub returns-clause-calls : goal.returns-clause-calls
returns-clause-calls g c = calls_after _ _ _ c.in-Ok.ensures.calls c.give_back.ensures.calls
