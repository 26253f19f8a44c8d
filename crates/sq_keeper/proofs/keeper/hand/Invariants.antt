use Rattle.std.proofs.Common.{◌≤◌, []}
use Rattle.sq_keeper.specs.Handing.{Adds}
use Rattle.sq_keeper.proofs.keeper.hand.Given as goal

-- the desk had no memory so far, and took nothing
abbrev pub invariant-loop : goal.invariant-loop
invariant-loop g l = record {
  adds : Adds (g.K.LineDesk.handed l.fn.desk) (g.K.LineDesk.handed l.desk) [];
  later : g.K.LineDesk.refused l.fn.desk ≤ g.K.LineDesk.refused l.desk;
  passes : g.K.LineDesk.passes l.fn.desk l.desk;
}
