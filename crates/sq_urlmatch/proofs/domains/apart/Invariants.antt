use Rattle.std.proofs.Common.{◌≡◌, ◌||◌, ℕ, List, length}
use Rattle.sq_urlmatch.specs.Names.{has_host, AreHashed}
use Rattle.sq_urlmatch.proofs.domains.apart.Given as goal

-- the names that are kept and those that are left stand for the hosts of all
abbrev pub invariant-loop-name : goal.invariant-loop-name
invariant-loop-name l = record {
  same : (host : List ℕ) → (has_host l.kept.items host || has_host l.names.items host)
      ≡ has_host l.initial.names.items host;
  kept : AreHashed l.kept.items;
  left : AreHashed l.names.items;
}

abbrev pub decreases-loop-name : goal.decreases-loop-name
decreases-loop-name l = length l.names.items
