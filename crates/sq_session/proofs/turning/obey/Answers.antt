use Rattle.std.proofs.Common.{refl, sym, ap, ◌∙◌, inl}
use Rattle.sq_rules.specs.declared.outcomes.Outcome.{Outcome}
use Rattle.sq_message.specs.OwnReplies.{denial}
use Rattle.sq_turns.proofs.CarryLaws.{obeys_denied, cause_client}
use Rattle.sq_turns.proofs.GoesLaws.{was_told}
use Rattle.sq_turns.proofs.OwnReplyLaws.{tells_same}
use Rattle.sq_session.proofs.turning.obey.Goals as goal

pub returns-else-outcome-clause-told : goal.returns-else-outcome-clause-told
returns-else-outcome-clause-told g c =
    obeys_denied c.args.request.now.sent.now c.args.request.now.addr c.args.request.now.plan
    c.args.request.now.judged.now c.denied_closes-closes.result
    (sym (ap Outcome.allow c.outcome.ensures.value) ∙ c.if-outcome.false) c.denied_closes-closes.ensures
    (tells_same _ _ _ _ (ap (λ o. denial o c.is_head.result c.denied_closes-closes.result)
    c.outcome-else-outcome.ensures.value
    ∙ ap (λ b. denial c.args.request.now.judged.now.outcome b c.denied_closes-closes.result) c.is_head.ensures) refl
    c.deny.ensures.tells)
    (g.met.F.Meter.capped c.args.front.now)

pub returns-else-outcome-clause-cause : goal.returns-else-outcome-clause-cause
returns-else-outcome-clause-cause g c = cause_client _ _ _ c.deny.result c.deny.ensures.cause

pub returns-else-outcome-clause-dialled : goal.returns-else-outcome-clause-dialled
returns-else-outcome-clause-dialled g c = was_told _

pub returns-else-outcome-clause-calls : goal.returns-else-outcome-clause-calls
returns-else-outcome-clause-calls g c = inl refl
