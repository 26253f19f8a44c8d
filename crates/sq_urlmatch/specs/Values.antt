-- The values of acls that are kept sorted (configuration reference, `acl`, types src, dst,
-- dstdomain and port).
use Rattle.std.specs.Prelude.{◌≡◌, ℕ, List, [], Bool, ◌&&◌, nat_le, Some, None, length, slice_get}
use Rattle.std.specs.List.{list_any}
use Rattle.std.specs.declared.option.Option.{Option}
use Rattle.sq_base.specs.Addresses.{Address, IsAddress}
use Rattle.sq_base.specs.declared.addresses.Range.{Range}
use Rattle.sq_urlmatch.specs.Members.{in_some_domain, in_some_range}
use Rattle.sq_urlmatch.specs.Names.{has_host}
use Rattle.sq_urlmatch.specs.Spans.{has_address, in_spans}
use Rattle.sq_rules.specs.declared.configs.Acl.{Acl}
use Rattle.sq_rules.specs.declared.configs.Body.{Body}
use Rattle.sq_rules.specs.declared.configs.Body.TheVariants as body
use Rattle.sq_rules.specs.declared.leaves.Find.{Find}
use Rattle.sq_rules.specs.declared.leaves.Leaf.{Leaf}
use Rattle.sq_rules.specs.declared.leaves.Leaf.TheVariants as leaf
use Rattle.sq_rules.specs.declared.leaves.PortRange.{PortRange}
use Rattle.sq_urlmatch.specs.Found.{finds_of_each}
use Rattle.sq_urlmatch.specs.declared.sets.ValueSets.{ValueSets}

-- the ranges of a leaf
abbrev pub ranges_of_leaf : Leaf → List Range
ranges_of_leaf (leaf.Src ranges) = ranges
ranges_of_leaf (leaf.Dst ranges) = ranges
ranges_of_leaf l = []

-- the domains of a leaf
abbrev pub domains_of_leaf : Leaf → List (List ℕ)
domains_of_leaf (leaf.DstDomain domains) = domains
domains_of_leaf l = []

-- the ranges of ports of a leaf
abbrev pub ports_of_leaf : Leaf → List PortRange
ports_of_leaf (leaf.Port ports) = ports
ports_of_leaf l = []

-- some range holds the port
abbrev pub in_some_ports : List PortRange → ℕ → Bool
in_some_ports ports n = list_any (λ r. nat_le r.first n && nat_le n r.last) ports

-- the ranges of an acl; only src and dst have some
abbrev pub ranges_in : Body → List Range
ranges_in (body.Leaf l) = ranges_of_leaf l
ranges_in b = []

-- the domains of an acl; only dstdomain has some
abbrev pub domains_in : Body → List (List ℕ)
domains_in (body.Leaf l) = domains_of_leaf l
domains_in b = []

-- the ranges of ports of an acl; only port has some
abbrev pub ports_in : Body → List PortRange
ports_in (body.Leaf l) = ports_of_leaf l
ports_in b = []

abbrev pub ranges_of : Option Acl → List Range
ranges_of None = []
ranges_of (Some a) = ranges_in a.body

abbrev pub domains_of : Option Acl → List (List ℕ)
domains_of None = []
domains_of (Some a) = domains_in a.body

abbrev pub ports_of : Option Acl → List PortRange
ports_of None = []
ports_of (Some a) = ports_in a.body

-- the ranges of the acl at a place
abbrev pub ranges_at : List Acl → ℕ → List Range
ranges_at acls place = ranges_of (slice_get acls place)

-- the domains of the acl at a place
abbrev pub domains_at : List Acl → ℕ → List (List ℕ)
domains_at acls place = domains_of (slice_get acls place)

-- the ranges of ports of the acl at a place
abbrev pub ports_at : List Acl → ℕ → List PortRange
ports_at acls place = ports_of (slice_get acls place)

-- the sets have what these ranges, domains and ranges of ports hold
pub record HoldAlike (ranges : List Range) (domains : List (List ℕ)) (ports : List PortRange)
    (s : ValueSets) : Type 0 where
  pub addresses : (a : Address) → IsAddress a → has_address s.addresses a ≡ in_some_range ranges a
  pub hosts : (host : List ℕ) → has_host s.domains host ≡ in_some_domain domains host
  pub numbers : (n : ℕ) → in_spans s.ports n ≡ in_some_ports ports n

-- there are sets for each acl, and they have what its values hold
pub record HoldValues (acls : List Acl) (sets : List ValueSets) : Type 0 where
  pub long : length sets ≡ length acls
  pub each : (place : ℕ) (s : ValueSets) → slice_get sets place ≡ Some s
      → HoldAlike (ranges_at acls place) (domains_at acls place) (ports_at acls place) s

-- what is kept beside acls: the patterns of each, and sets of the values of each
pub record IsSetUp (acls : List Acl) (patterns : List (List Find))
    (sets : List ValueSets) : Type 0 where
  pub found : patterns ≡ finds_of_each acls
  pub values : HoldValues acls sets
