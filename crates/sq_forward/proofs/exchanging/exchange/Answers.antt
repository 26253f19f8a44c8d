use Rattle.std.proofs.Common.{◌⊎◌, IfSome, subst}
use Rattle.std.specs.Io.KnownBytes.{prepend_known}
use Rattle.sq_forward.proofs.AccessLaws.{access_at}
use Rattle.sq_forward.specs.Access.{HeaderAccess}
use Rattle.sq_outside.specs.Causes.{Rose}
use Rattle.sq_forward.specs.Exchanges.{Exchanges, message, sink, exchange_seen}
use Rattle.sq_forward.specs.Meters.{metered}
use Rattle.sq_forward.proofs.exchanging.exchange.Goals as goal

pub returns-clause-told : goal.returns-clause-told
returns-clause-told g c = λ s seen.
    let new = c.exchange_by.new in
    let came = Rose (g.O.In.Source.faults c.args.origin.now.from.source) (g.O.In.Source.faults new.origin.from.source)
    in
    let went = Rose (g.O.Outgo.Sink.faults c.args.origin.now.to) (g.O.Outgo.Sink.faults new.origin.to) in
    subst (λ (access : HeaderAccess).
    IfSome (prepend_known c.args.client.now.from.ahead (g.C.In.Source.left c.args.client.now.from.source))
    (λ input. IfSome (prepend_known c.args.origin.now.from.ahead (g.O.In.Source.left c.args.origin.now.from.source))
    (λ reply. Exchanges access (message c.args.outgoing.now.request.now c.args.outgoing.now.addr
    c.args.outgoing.now.plan) input reply
    (exchange_seen (prepend_known new.client.from.ahead (g.C.In.Source.left new.client.from.source))
    (metered (g.M.Meter.seated c.args.meter.now) (g.C.Outgo.Sink.contents c.args.client.now.to)
    (g.C.Outgo.Sink.contents new.client.to) (g.M.Meter.granted c.args.meter.now) (g.M.Meter.granted new.meter))
    (sink (g.O.Outgo.Sink.contents c.args.origin.now.to) (g.O.Outgo.Sink.contents new.origin.to))) (came ⊎ went)
    c.exchange_by.result)))
    (access_at c.args.outgoing.now.config.now c.args.outgoing.now.facts.now s c.facts.ensures seen)
    c.exchange_by.ensures.told
