-- What lists of ranges and of domains hold, as they were written (configuration reference, `acl`,
-- types src, dst and dstdomain).
use Rattle.std.specs.Prelude.{ℕ, List, Bool}
use Rattle.std.specs.List.{list_any}
use Rattle.std.specs.Str.{str_to_ascii_lowercase}
use Rattle.sq_base.specs.Addresses.{Address}
use Rattle.sq_base.specs.Domains.{in_domain}
use Rattle.sq_base.specs.Ranges.{in_range}
use Rattle.sq_base.specs.declared.addresses.Range.{Range}

-- some range holds the address
abbrev pub in_some_range : List Range → Address → Bool
in_some_range ranges a = list_any (λ r. in_range r a) ranges

-- some domain holds the host; domains count in lower case, as hosts of requests are
abbrev pub in_some_domain : List (List ℕ) → List ℕ → Bool
in_some_domain domains host = list_any (λ d. in_domain host (str_to_ascii_lowercase d)) domains
