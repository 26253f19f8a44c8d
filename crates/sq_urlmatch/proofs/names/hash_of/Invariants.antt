use Rattle.std.proofs.Common.{◌≡◌, ◌-◌, drop, length}
use Rattle.sq_urlmatch.specs.Names.{hash_of}
use Rattle.sq_urlmatch.proofs.names.hash_of.Given as goal

-- the hash of the end so far
abbrev pub invariant-loop-k : goal.invariant-loop-k
invariant-loop-k l = l.hash ≡ hash_of (drop (length l.bytes - l.k) l.bytes)
