use Rattle.std.proofs.Common.{◌⊎◌, inl, inr, subst, rules}
use Rattle.std.specs.Io.KnownBytes.{prepend_known}
use Rattle.sq_outside.specs.Causes.{Rose}
use Rattle.sq_forward.specs.Sending.{SendHasCause}
use Rattle.sq_forward.proofs.ExchangeLaws.{exchange_unsent, exchange_led, exchange_sent}
use Rattle.sq_forward.proofs.exchanging.exchange_by.Goals as goal

pub returns-in-Some-clause-told : goal.returns-in-Some-clause-told
returns-in-Some-clause-told g c =
    let faults = g.C.In.Source.faults in
    let client = Rose (faults c.args.client.now.from.source) (faults c.send_request.new.client.source)
    ⊎ Rose (g.C.Outgo.Sink.faults c.args.client.now.to) (g.C.Outgo.Sink.faults c.send_request.new.to_client) in
    let origin = Rose (g.O.Outgo.Sink.faults c.args.origin.now.to) (g.O.Outgo.Sink.faults c.send_request.new.to_origin)
    in
    exchange_unsent _ _ _ _ (prepend_known c.args.client.now.from.ahead (g.C.In.Source.left
    c.args.client.now.from.source))
    (prepend_known c.args.origin.now.from.ahead (g.O.In.Source.left c.args.origin.now.from.source)) _ _ _ _ _
    (g.M.Meter.seated c.args.meter.now) (g.M.Meter.granted c.args.meter.now)
    (Rose (g.O.In.Source.faults c.args.origin.now.from.source) (g.O.In.Source.faults c.args.origin.now.from.source)
    ⊎ origin)
    c.in-Some.end
    (search (rules, g.M.laws)) c.in-Some.ensures.sends
    (λ e. inr (subst (SendHasCause client origin) e c.in-Some.ensures.cause))

pub returns-in-Err-clause-told : goal.returns-in-Err-clause-told
returns-in-Err-clause-told g c =
    let came = Rose (g.O.In.Source.faults c.args.origin.now.from.source) (g.O.In.Source.faults
    c.lead_reply.new.origin.source) in
    let went = Rose (g.O.Outgo.Sink.faults c.args.origin.now.to) (g.O.Outgo.Sink.faults c.send_request.new.to_origin) in
    exchange_led _ _ _ _ (prepend_known c.args.client.now.from.ahead (g.C.In.Source.left c.args.client.now.from.source))
    (prepend_known c.args.origin.now.from.ahead (g.O.In.Source.left c.args.origin.now.from.source)) _ _ _ _ _ _ _
    _ _ _ came (came ⊎ went) c.in-Err.end c.in-None.ensures.sends c.in-Err.ensures.leads (λ x. inl x)

pub returns-clause-told : goal.returns-clause-told
returns-clause-told g c =
    exchange_sent _ _ _ _ (prepend_known c.args.client.now.from.ahead (g.C.In.Source.left
    c.args.client.now.from.source))
    (prepend_known c.args.origin.now.from.ahead (g.O.In.Source.left c.args.origin.now.from.source)) _ _ _ _ _ _ _ _
    _ _ _ _ _ _ _ c.in-Ok.head c.send_reply.result c.in-None.ensures.sends c.in-Ok.ensures.leads
    c.lead_reply.ensures.seated c.send_reply.ensures.sends
