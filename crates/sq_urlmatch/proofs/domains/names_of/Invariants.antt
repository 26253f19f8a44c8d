use Rattle.std.proofs.Common.{◌≡◌, ℕ, List, take}
use Rattle.sq_urlmatch.specs.Members.{in_some_domain}
use Rattle.sq_urlmatch.specs.Names.{has_host, AreHashed}
use Rattle.sq_urlmatch.proofs.domains.names_of.Given as goal

-- the names so far stand for the hosts of the domains so far
abbrev pub invariant-loop-domain : goal.invariant-loop-domain
invariant-loop-domain l = record {
  same : (host : List ℕ) → has_host l.names.items host ≡ in_some_domain (take l.domain-index l.domains) host;
  hashed : AreHashed l.names.items;
}
