use Rattle.std.proofs.Common.{◌∙◌}
use Rattle.sq_control.proofs.OrderLaws.{no_lf, reading_ends, reading_more, reading_stops}
use Rattle.sq_control.proofs.orders.next_order.Goals as goal

pub returns-in-Ok-Some-eq10-clause-next : goal.returns-in-Ok-Some-eq10-clause-next
returns-in-Ok-Some-eq10-clause-next g c =
    reading_ends (g.S.Source.left c.args.source.now) (g.S.Source.left c.bytes.source)
    (g.S.Source.left c.next_byte.new.source) c.bytes.front c.in-Ok-Some-eq10.field-0-0 c.order.result
    c.bytes.invariant.reading (rw c.in-Ok-Some-eq10.field-0-is at c.in-Ok-Some-eq10.ensures.byte)
    c.in-Ok-Some-eq10.field-0-0-test c.order.ensures

pub bytes-preserved : goal.bytes-preserved
bytes-preserved g c = record {
  reading = reading_more (g.S.Source.left c.args.source.now) (g.S.Source.left c.bytes.source)
      (g.S.Source.left c.next_byte.new.source) c.bytes.front c.push.new.self c.in-Ok-Some.byte
      c.bytes.invariant.reading (rw c.in-Ok-Some.field-0-is at c.in-Ok-Some.ensures.byte)
      (no_lf c.in-Ok-Some.byte c.in-Ok-Some.byte-test.1) c.push.ensures;
  faults = c.in-Ok-Some.ensures.cause.quiet ∙ c.bytes.invariant.faults;
}

pub returns-in-Ok-None-clause-next : goal.returns-in-Ok-None-clause-next
returns-in-Ok-None-clause-next g c =
    let none = rw c.in-Ok-None.field-0-is at c.in-Ok-None.ensures.byte in
    reading_stops (g.S.Source.left c.args.source.now) (g.S.Source.left c.bytes.source)
    (g.S.Source.left c.next_byte.new.source) c.bytes.front c.bytes.invariant.reading none.0 none.1
