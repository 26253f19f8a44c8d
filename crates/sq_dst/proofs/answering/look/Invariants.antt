use Rattle.std.proofs.Common.{◌≡◌}
use Rattle.sq_dst.proofs.answering.look.Given as goal

-- the resolver had no memory so far, and no fault
abbrev pub invariant-loop : goal.invariant-loop
invariant-loop g l = record {
  names : g.Q.Resolver.names l.resolver ≡ g.Q.Resolver.names l.fn.resolver;
  faults : g.Q.Resolver.faults l.resolver ≡ g.Q.Resolver.faults l.fn.resolver;
}
