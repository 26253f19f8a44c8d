use Rattle.std.proofs.Common.{◌≡◌, sym, ap, ◌∙◌, rules}
use Rattle.sq_forward.specs.Exchanges.{dry_after_exchange}
use Rattle.sq_turns.proofs.CarryLaws.{cause_said}
use Rattle.sq_turns.proofs.ForwardLaws.{traded_by, untraded_by, traded_cause, traded_dry}
use Rattle.sq_turns.proofs.forwarding.trade.Goals as goal

pub returns-in-NoReply-clause-told : goal.returns-in-NoReply-clause-told
returns-in-NoReply-clause-told g c =
    let config : c.deref.result.now ≡ c.args.request.now.judged.now.config = search rules in
    untraded_by (g.C.Outgo.Sink.contents c.exchange-ended.new.client.to) c.args.request.now.judged.now _
    _ c.args.request.now.sent.now c.args.request.now.addr
    c.args.request.now.plan c.exchange-ended.result c.is_head.result c.say.result config c.facts-facts.ensures
    c.in-NoReply.is c.is_head.ensures (λ s e. c.exchange-ended.ensures.told s e) c.say.ensures.tells

pub returns-in-NoReply-clause-cause : goal.returns-in-NoReply-clause-cause
returns-in-NoReply-clause-cause g c = cause_said _ _ _ _ _ c.say.result c.exchange-ended.ensures.to_client_later
    c.say.ensures.cause

pub returns-in-NoReply-clause-dry : goal.returns-in-NoReply-clause-dry
returns-in-NoReply-clause-dry g c = c.exchange-ended.ensures.dry ∙ ap dry_after_exchange c.in-NoReply.is
    ∙ sym c.say.ensures.dry

pub returns-in_default-clause-told : goal.returns-in_default-clause-told
returns-in_default-clause-told g c =
    let config : c.deref.result.now ≡ c.args.request.now.judged.now.config = search rules in
    traded_by c.args.request.now.judged.now _ _ c.args.request.now.sent.now c.args.request.now.addr
    c.args.request.now.plan
    c.exchange-ended.result c.carried_of.result config c.facts-facts.ensures c.carried_of.ensures
    c.in_default.not-NoReply (λ s e. c.exchange-ended.ensures.told s e)

pub returns-in_default-clause-cause : goal.returns-in_default-clause-cause
returns-in_default-clause-cause g c = traded_cause _ _ _ c.exchange-ended.result c.carried_of.result
    c.carried_of.ensures c.exchange-ended.ensures.cause

pub returns-in_default-clause-dry : goal.returns-in_default-clause-dry
returns-in_default-clause-dry g c = c.exchange-ended.ensures.dry
    ∙ traded_dry c.exchange-ended.result c.carried_of.result c.carried_of.ensures
