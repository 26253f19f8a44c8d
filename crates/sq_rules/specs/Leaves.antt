-- In the statement: docs/STATEMENT.md lists which definitions.
-- Where a leaf acl holds: some value of its list meets its type's row (configuration reference,
-- `acl`).
use Rattle.std.specs.Prelude.{ℕ, List, [], ◌∷◌, Bool, false, ◌&&◌, nat_lt, nat_le, Some, None, bytes_eq}
use Rattle.std.specs.List.{list_any}
use Rattle.std.specs.Str.{str_to_ascii_lowercase, str_eq_ignore_ascii_case}
use Rattle.std.specs.declared.option.Option.{Option}
use Rattle.percent_encoding.specs.Percent.{percent_decode}
use Rattle.sq_base.specs.Addresses.{Address}
use Rattle.sq_base.specs.Domains.{in_domain}
use Rattle.sq_base.specs.Ranges.{in_range}
use Rattle.sq_base.specs.declared.addresses.Range.{Range}
use Rattle.sq_rules.specs.Patterns.{some_found}
use Rattle.sq_rules.specs.Times.{in_hour}
use Rattle.sq_rules.specs.declared.leaves.Leaf.{Leaf}
use Rattle.sq_rules.specs.declared.leaves.Leaf.TheVariants as leaf
use Rattle.sq_rules.specs.declared.sights.Sight.{Sight}

-- the address lies in some range; a host that spells no address lies in none
abbrev pub in_ranges : List Range → Option Address → Bool
in_ranges ranges None = false
in_ranges ranges (Some a) = list_any (λ r. in_range r a) ranges

-- there is a scheme, and it is one of these without case
abbrev pub has_scheme : List (List ℕ) → List ℕ → Bool
has_scheme names [] = false
has_scheme names (b ∷ bs) = list_any (λ n. str_eq_ignore_ascii_case n (b ∷ bs)) names

-- the leaf holds of what a check sees; hosts are in lower case already
abbrev pub holds : Leaf → Sight → Bool
holds (leaf.Src ranges) s = list_any (λ r. in_range r s.addr) ranges
holds (leaf.Dst ranges) s = in_ranges ranges s.request.literal
holds (leaf.DstDomain names) s = list_any (λ n. in_domain s.request.host (str_to_ascii_lowercase n))
    names
holds (leaf.Port ranges) s = list_any
    (λ r. nat_le r.first s.request.port && nat_le s.request.port r.last) ranges
holds (leaf.Method names) s = list_any (λ m. bytes_eq m s.request.method) names
holds (leaf.Proto names) s = has_scheme names s.request.scheme
holds (leaf.Time periods) s = list_any (λ p. in_hour p s.minute) periods
holds (leaf.UrlRegex finds) s = some_found finds (percent_decode s.request.target)
holds (leaf.MaxConn numbers) s = list_any (λ n. nat_lt n s.conns) numbers
