use Rattle.std.proofs.Common.{◌≡◌, ◌-◌, drop, false, length}
use Rattle.sq_urlmatch.specs.Names.{hash_of, some_above}
use Rattle.sq_urlmatch.proofs.domains.finds.Given as goal

-- no wide name has the end so far below it
abbrev pub invariant-loop-k : goal.invariant-loop-k
invariant-loop-k l = record {
  hash : l.hash ≡ hash_of (drop (length l.host - l.k) l.host);
  none : some_above l.names (drop (length l.host - l.k) l.host) ≡ false;
}
