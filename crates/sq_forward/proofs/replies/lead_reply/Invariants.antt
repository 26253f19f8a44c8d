use Rattle.std.proofs.Common.{◌≡◌, ◌≤◌, ◌+◌, length, max}
use Rattle.std.specs.Io.KnownBytes.{prepend_known}
use Rattle.sq_forward.specs.Access.{access_by}
use Rattle.sq_message.specs.ReplyHeads.{most_bytes}
use Rattle.sq_forward.specs.Halves.{read_limit}
use Rattle.sq_forward.specs.Replies.{interim_limit}
use Rattle.sq_forward.proofs.LeadLaws.{LeadingSo}
use Rattle.sq_forward.proofs.replies.lead_reply.Given as goal

-- so many heads were passed on, none of which was the reply's own
abbrev pub invariant-loop : goal.invariant-loop
invariant-loop g l =
    let left = g.P.Source.left in
    record {
      leads : LeadingSo (access_by l.fn.outgoing.config.now l.fn.outgoing.facts.now) l.fn.outgoing.request.now
          (g.M.Meter.seated l.fn.meter) l.passed
          (prepend_known l.fn.origin.ahead (left l.fn.origin.source))
          (prepend_known l.origin.ahead (left l.origin.source))
          (g.O.Sink.contents l.fn.to_client) (g.O.Sink.contents l.to_client) (g.M.Meter.granted l.fn.meter)
          (g.M.Meter.granted l.meter);
      room : l.passed ≤ interim_limit;
      dry : g.M.Meter.dry l.meter ≡ 0;
      seated : g.M.Meter.seated l.meter ≡ g.M.Meter.seated l.fn.meter;
      besides : g.M.Meter.besides l.meter ≡ g.M.Meter.besides l.fn.meter;
      origin_later : g.P.Source.faults l.fn.origin.source ≤ g.P.Source.faults l.origin.source;
      client_later : g.O.Sink.faults l.fn.to_client ≤ g.O.Sink.faults l.to_client;
      dialled : g.P.Source.origin l.origin.source ≡ g.P.Source.origin l.fn.origin.source;
      few : length l.origin.ahead ≤ max (length l.fn.origin.ahead) (most_bytes + read_limit);
    }
