use Rattle.std.proofs.Common.{◌≡◌, ◌≤◌}
use Rattle.sq_keeper.proofs.KeeperLaws.{SoFar}
use Rattle.sq_keeper.proofs.keeper.read_lines.Given as goal

-- bytes were read, their lines handed on, and no read failed
abbrev pub invariant-loop : goal.invariant-loop
invariant-loop g l = record {
  read : SoFar l.proc (g.S.Source.left l.fn.from) (g.S.Source.left l.from) (g.K.LineDesk.handed l.fn.desk)
      (g.K.LineDesk.handed l.desk) l.line;
  faults : g.S.Source.faults l.from ≡ g.S.Source.faults l.fn.from;
  refused : g.K.LineDesk.refused l.fn.desk ≤ g.K.LineDesk.refused l.desk;
  passes : g.K.LineDesk.passes l.fn.desk l.desk;
}
