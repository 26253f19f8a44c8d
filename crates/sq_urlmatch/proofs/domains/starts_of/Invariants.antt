use Rattle.std.proofs.Common.{◌≡◌, length}
use Rattle.sq_urlmatch.specs.Names.{AreStarts}
use Rattle.sq_urlmatch.proofs.domains.starts_of.Given as goal

-- each place so far has its start
abbrev pub invariant-loop-place : goal.invariant-loop-place
invariant-loop-place l = record {
  long : length l.starts.items ≡ l.place-counter;
  starts : AreStarts l.names l.shift l.starts.items;
}
