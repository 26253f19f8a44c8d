use Rattle.std.proofs.Common.{◌≡◌, ◌≤◌, length, max}
use Rattle.std.specs.Io.KnownBytes.{prepend_known}
use Rattle.sq_forward.specs.Halves.{large_read_limit}
use Rattle.sq_forward.proofs.CopyLaws.{SoFar}
use Rattle.sq_forward.proofs.copying.copy_body.Given as goal

-- some of the body was granted and written, and the rest is to come
abbrev pub invariant-loop : goal.invariant-loop
invariant-loop g l =
    let left = g.S.Source.left in
    record {
      chunked : l.cursor.chunked ≡ l.fn.chunked_out;
      so_far : SoFar (g.M.Meter.seated l.fn.meter) l.fn.plan l.fn.chunked_out l.cursor.place
          (prepend_known l.fn.from.ahead (left l.fn.from.source)) (prepend_known l.from.ahead (left l.from.source))
          (g.O.Sink.contents l.fn.to) (g.O.Sink.contents l.to) (g.M.Meter.granted l.fn.meter)
          (g.M.Meter.granted l.meter);
      dry : g.M.Meter.dry l.meter ≡ 0;
      seated : g.M.Meter.seated l.meter ≡ g.M.Meter.seated l.fn.meter;
      besides : g.M.Meter.besides l.meter ≡ g.M.Meter.besides l.fn.meter;
      source_later : g.S.Source.faults l.fn.from.source ≤ g.S.Source.faults l.from.source;
      sink_later : g.O.Sink.faults l.fn.to ≤ g.O.Sink.faults l.to;
      origin : g.S.Source.origin l.from.source ≡ g.S.Source.origin l.fn.from.source;
      few : length l.from.ahead ≤ max (length l.fn.from.ahead) large_read_limit;
    }
