use Rattle.std.proofs.Common.{◌≡◌, ◌≤◌}
use Rattle.sq_turns.specs.Tellings.{Tells, Waited}
use Rattle.sq_turns.proofs.asked_rewriter.take.Given as goal

-- events came that no connection makes, and nothing was asked or granted meanwhile
abbrev pub invariant-loop : goal.invariant-loop
invariant-loop g l = record {
  waited : Tells Waited (g.H.Hub.told l.fn.hub) (g.H.Hub.told l.hub);
  asked : g.H.Hub.asked l.hub ≡ g.H.Hub.asked l.fn.hub;
  refused_later : g.H.Hub.refused l.fn.hub ≤ g.H.Hub.refused l.hub;
  granted : g.H.Hub.granted l.hub ≡ g.H.Hub.granted l.fn.hub;
}
