use Rattle.std.proofs.Common.{refl, sym, ap, ◌∙◌, inl}
use Rattle.sq_base.specs.Requests.{HttpRequest}
use Rattle.sq_message.specs.OwnReplies.{redirect_text}
use Rattle.sq_message.specs.declared.own.Own.TheVariants.{NoMemory}
use Rattle.sq_turns.specs.declared.ends.Carried.TheVariants.{Closes}
use Rattle.sq_turns.specs.declared.front.Rewritten.TheVariants as rewritten
use Rattle.sq_turns.proofs.CarryLaws.{obeys_tunnel, obeys_sent, obeys_told, cause_client}
use Rattle.sq_turns.proofs.GoesLaws.{was_told}
use Rattle.sq_turns.proofs.OwnReplyLaws.{tells_as, tells_same}
use Rattle.sq_turns.proofs.rewriting.go_on.Goals as goal

pub returns-then-is_connect-clause-told : goal.returns-then-is_connect-clause-told
returns-then-is_connect-clause-told g c = obeys_tunnel c.args.request.now.sent.now c.args.request.now.addr
    c.args.request.now.plan c.args.request.now.judged.now
    c.requires.allowed (sym c.is_connect.ensures ∙ c.if-is_connect.true) c.carry.ensures.told

pub returns-in-Same-clause-told : goal.returns-in-Same-clause-told
returns-in-Same-clause-told g c =
    obeys_sent c.args.request.now.sent.now c.args.request.now.sent.now c.args.request.now.addr c.args.request.now.plan
    c.args.request.now.judged.now rewritten.Same
    c.requires.allowed (sym c.is_connect.ensures ∙ c.if-is_connect.false) refl (λ rest more reply. refl)
    c.in-Same.ensures.rewrites c.in-Same.ensures.granted c.in-Same.ensures.told c.carry-in-Same.ensures.told

pub returns-in-New-clause-told : goal.returns-in-New-clause-told
returns-in-New-clause-told g c =
    obeys_sent c.args.request.now.sent.now c.in-New.new c.args.request.now.addr c.args.request.now.plan
    c.args.request.now.judged.now (rewritten.New c.in-New.new)
    c.requires.allowed (sym c.is_connect.ensures ∙ c.if-is_connect.false)
    (c.in-New.ensures.rewrites.method ∙ ap HttpRequest.method c.requires.same) (λ rest more reply. refl)
    c.in-New.ensures.rewrites c.in-New.ensures.granted c.in-New.ensures.told c.carry-in-New.ensures.told

pub returns-in-Redirect-clause-told : goal.returns-in-Redirect-clause-told
returns-in-Redirect-clause-told g c =
    obeys_told c.args.request.now.sent.now c.args.request.now.addr c.args.request.now.plan c.args.request.now.judged.now
    (rewritten.Redirect c.in-Redirect.status c.in-Redirect.url) (redirect_text c.in-Redirect.status c.in-Redirect.url)
    c.requires.allowed (sym c.is_connect.ensures ∙ c.if-is_connect.false) (λ rest. refl)
    c.in-Redirect.ensures.rewrites c.in-Redirect.ensures.told
    (tells_same _ _ Closes Closes (ap (redirect_text c.in-Redirect.status) c.as_bytes.ensures.value) refl
    c.send_elsewhere.ensures.tells) (g.met.F.Meter.capped c.args.front.now) c.in-Redirect.ensures.granted

pub returns-in-Redirect-clause-cause : goal.returns-in-Redirect-clause-cause
returns-in-Redirect-clause-cause g c = cause_client _ _ _ c.send_elsewhere.result c.send_elsewhere.ensures.cause

pub returns-in-Redirect-clause-dialled : goal.returns-in-Redirect-clause-dialled
returns-in-Redirect-clause-dialled g c = was_told _

pub returns-in-Redirect-clause-calls : goal.returns-in-Redirect-clause-calls
returns-in-Redirect-clause-calls g c = inl refl

pub returns-in-WantOfMemory-clause-told : goal.returns-in-WantOfMemory-clause-told
returns-in-WantOfMemory-clause-told g c =
    obeys_told c.args.request.now.sent.now c.args.request.now.addr c.args.request.now.plan c.args.request.now.judged.now
    rewritten.WantOfMemory _
    c.requires.allowed (sym c.is_connect.ensures ∙ c.if-is_connect.false) (λ rest. refl)
    c.in-WantOfMemory.ensures.rewrites c.in-WantOfMemory.ensures.told
    (tells_as NoMemory c.is_head.result _ c.is_head.ensures c.say.ensures.tells)
    (g.met.F.Meter.capped c.args.front.now) c.in-WantOfMemory.ensures.granted

pub returns-in-WantOfMemory-clause-cause : goal.returns-in-WantOfMemory-clause-cause
returns-in-WantOfMemory-clause-cause g c = cause_client _ _ _ c.say.result c.say.ensures.cause

pub returns-in-WantOfMemory-clause-dialled : goal.returns-in-WantOfMemory-clause-dialled
returns-in-WantOfMemory-clause-dialled g c = was_told _

pub returns-in-WantOfMemory-clause-calls : goal.returns-in-WantOfMemory-clause-calls
returns-in-WantOfMemory-clause-calls g c = inl refl
