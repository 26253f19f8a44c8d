use Rattle.std.proofs.Common.{◌≡◌, ◌≤◌, take}
use Rattle.sq_dst.specs.AnsweredLines.{HandsAnswers, answer_step}
use Rattle.sq_keeper.specs.Walk.{walk_handed, walk_line}
use Rattle.sq_dst.proofs.answering.take_bytes.Given as goal

-- the bytes so far were taken
abbrev pub invariant-loop-byte : goal.invariant-loop-byte
invariant-loop-byte g l = record {
  hands : HandsAnswers l.config (answer_step (g.Q.Resolver.names l.fn.resolver) (g.Q.Resolver.faults l.fn.resolver)
      (g.Q.Resolver.faults l.resolver) (g.K.LineDesk.handed l.fn.desk) (g.K.LineDesk.handed l.desk))
      (walk_handed l.proc l.fn.line (take l.byte-index l.bytes));
  names : g.Q.Resolver.names l.resolver ≡ g.Q.Resolver.names l.fn.resolver;
  looks : g.Q.Resolver.faults l.fn.resolver ≤ g.Q.Resolver.faults l.resolver;
  line : l.line ≡ walk_line l.fn.line (take l.byte-index l.bytes);
  later : g.K.LineDesk.refused l.fn.desk ≤ g.K.LineDesk.refused l.desk;
  passes : g.K.LineDesk.passes l.fn.desk l.desk;
}
