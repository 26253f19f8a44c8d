use Rattle.std.proofs.Common.{◌≡◌, ◌≤◌, take}
use Rattle.sq_keeper.specs.Handing.{Adds}
use Rattle.sq_keeper.specs.Walk.{walk_line, walk_handed}
use Rattle.sq_keeper.proofs.keeper.take_bytes.Given as goal

-- the bytes so far were taken
abbrev pub invariant-loop-byte : goal.invariant-loop-byte
invariant-loop-byte g l = record {
  adds : Adds (g.K.LineDesk.handed l.fn.desk) (g.K.LineDesk.handed l.desk)
      (walk_handed l.proc l.fn.line (take l.byte-index l.bytes));
  line : l.line ≡ walk_line l.fn.line (take l.byte-index l.bytes);
  later : g.K.LineDesk.refused l.fn.desk ≤ g.K.LineDesk.refused l.desk;
  passes : g.K.LineDesk.passes l.fn.desk l.desk;
}
