use Rattle.std.proofs.Common.{◌≡◌}
use Rattle.sq_control.proofs.OrderLaws.{IsReading}
use Rattle.sq_control.proofs.orders.next_order.Given as goal

-- bytes of one line were read, and no read failed
abbrev pub invariant-bytes : goal.invariant-bytes
invariant-bytes g l = record {
  reading : IsReading (g.S.Source.left l.fn.source) (g.S.Source.left l.source) l.front;
  faults : g.S.Source.faults l.source ≡ g.S.Source.faults l.fn.source;
}
