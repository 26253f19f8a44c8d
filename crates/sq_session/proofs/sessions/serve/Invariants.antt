use Rattle.std.proofs.Common.{◌≡◌, ◌≤◌, false}
use Rattle.std.specs.Io.KnownBytes.{prepend_known}
use Rattle.sq_outside.specs.Causes.{Rose}
use Rattle.sq_session.proofs.ServeLaws.{ServedSo}
use Rattle.sq_session.proofs.sessions.serve.Given as goal

-- some turns were taken, and the connection stays
abbrev pub invariant-loop : goal.invariant-loop
invariant-loop g l =
    let left = g.C.In.Source.left in
    record {
      served : ServedSo l.fn.addr (g.F.Front.stands l.fn.front) (g.F.Front.stands l.front)
          (prepend_known l.fn.client.from.ahead (left l.fn.client.from.source))
          (prepend_known l.client.from.ahead (left l.client.from.source))
          (g.C.Outgo.Sink.contents l.fn.client.to) (g.C.Outgo.Sink.contents l.client.to) (g.D.Dialer.dialled
          l.fn.dialer)
          (g.D.Dialer.dialled l.dialer) (Rose (g.D.Dialer.faults l.fn.dialer) (g.D.Dialer.faults l.dialer))
          (g.F.Meter.granted l.fn.front) (g.F.Meter.granted l.front);
      dry : g.F.Meter.dry l.front ≡ 0;
      unseated : g.F.Meter.seated l.front ≡ false;
      number : g.F.Front.number l.front ≡ g.F.Front.number l.fn.front;
      asked : g.F.Front.asked l.fn.front ≤ g.F.Front.asked l.front;
      client_later : g.C.In.Source.faults l.fn.client.from.source ≤ g.C.In.Source.faults l.client.from.source;
      to_later : g.C.Outgo.Sink.faults l.fn.client.to ≤ g.C.Outgo.Sink.faults l.client.to;
      dialer_later : g.D.Dialer.faults l.fn.dialer ≤ g.D.Dialer.faults l.dialer;
    }
