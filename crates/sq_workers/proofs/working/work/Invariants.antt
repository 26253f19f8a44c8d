use Rattle.std.proofs.Common.{◌≡◌}
use Rattle.sq_workers.proofs.working.work.Given as goal

-- each share has both of the worker's parts between two links, and the number stays
abbrev pub invariant-loop : goal.invariant-loop
invariant-loop g l = record {
  first : l.sums.first ≡ l.fn.sums.first;
  count : l.sums.count ≡ 1;
  asked : l.sums.asked.parts ≡ 2;
  grants : l.sums.grants.parts ≡ 2;
  refused : l.refused.parts ≡ 2;
}
