use Rattle.std.proofs.Common.{◌≡◌}
use Rattle.sq_workers.proofs.tallies.Tally.grant_after_turns.Given as goal

-- where it was not the turn of the seat nothing was granted
abbrev pub invariant-loop : goal.invariant-loop
invariant-loop g l = record {
  granted : l.self.share.amount ≡ l.fn.self.share.amount;
}
