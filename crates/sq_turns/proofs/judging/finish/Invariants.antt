use Rattle.std.proofs.Common.{◌≡◌, ◌≤◌}
use Rattle.sq_turns.specs.Judging.{GoesOn}
use Rattle.sq_turns.specs.Tellings.{Tells}
use Rattle.sq_turns.proofs.judging.finish.Given as goal

-- the check went on, and nothing was asked or granted meanwhile
abbrev pub invariant-loop : goal.invariant-loop
invariant-loop g l = record {
  goes : Tells (GoesOn l.check) (g.H.Hub.told l.fn.hub) (g.H.Hub.told l.hub);
  asked : g.H.Hub.asked l.hub ≡ g.H.Hub.asked l.fn.hub;
  refused_later : g.H.Hub.refused l.fn.hub ≤ g.H.Hub.refused l.hub;
  faults_later : g.H.Hub.faults l.fn.hub ≤ g.H.Hub.faults l.hub;
  granted : g.H.Hub.granted l.hub ≡ g.H.Hub.granted l.fn.hub;
}
