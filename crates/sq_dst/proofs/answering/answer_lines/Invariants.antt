use Rattle.std.proofs.Common.{◌≡◌, ◌≤◌}
use Rattle.sq_dst.proofs.ReadLaws.{SoFarAnswered}
use Rattle.sq_dst.proofs.answering.answer_lines.Given as goal

-- bytes were read, their lines answered, and no read failed
abbrev pub invariant-loop : goal.invariant-loop
invariant-loop g l = record {
  read : SoFarAnswered l.config (g.Q.Resolver.names l.fn.resolver) (g.Q.Resolver.faults l.fn.resolver)
      (g.Q.Resolver.faults l.resolver) l.proc (g.S.Source.left l.fn.from) (g.S.Source.left l.from)
      (g.K.LineDesk.handed l.fn.desk) (g.K.LineDesk.handed l.desk) l.line;
  names : g.Q.Resolver.names l.resolver ≡ g.Q.Resolver.names l.fn.resolver;
  looks : g.Q.Resolver.faults l.fn.resolver ≤ g.Q.Resolver.faults l.resolver;
  faults : g.S.Source.faults l.from ≡ g.S.Source.faults l.fn.from;
  refused : g.K.LineDesk.refused l.fn.desk ≤ g.K.LineDesk.refused l.desk;
  passes : g.K.LineDesk.passes l.fn.desk l.desk;
}
