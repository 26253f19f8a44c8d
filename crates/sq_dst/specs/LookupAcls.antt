-- What a question about a host is answered: whether some address of the host lies in the values of
-- the acl that asks (configuration reference, `acl`: type dst; Squid's helper protocol page: OK,
-- ERR and BH).
use Rattle.std.specs.Prelude.{ℕ, List, Bool, false, ◌&&◌, if◌then◌else◌, Some, None, codes, bytes_eq, find}
use Rattle.std.specs.List.{list_any}
use Rattle.std.specs.declared.option.Option.{Option}
use Rattle.sq_base.specs.Addresses.{Address}
use Rattle.sq_base.specs.declared.addresses.Range.{Range}
use Rattle.sq_dst.specs.LookupKeys.{before_end, lookup_key}
use Rattle.sq_dst.specs.declared.keys.LookupKey.{LookupKey}
use Rattle.sq_rules.specs.Configurations.{Configuration}
use Rattle.sq_rules.specs.Leaves.{in_ranges}
use Rattle.sq_rules.specs.Lookups.{is_asking, literal_name}
use Rattle.sq_rules.specs.declared.configs.Acl.{Acl}
use Rattle.sq_rules.specs.declared.configs.Body.{Body}
use Rattle.sq_rules.specs.declared.configs.Body.TheVariants as body
use Rattle.sq_rules.specs.declared.leaves.Leaf.{Leaf}
use Rattle.sq_rules.specs.declared.leaves.Leaf.TheVariants as leaf

-- the acl of a name
abbrev pub acl_named : List Acl → List ℕ → Option Acl
acl_named acls name = find (λ a. bytes_eq a.name name) acls

-- it asks for the look-up of a name
abbrev pub asks : Option Acl → Bool
asks None = false
asks (Some a) = is_asking a.body

-- the values of an acl of type dst
abbrev pub dst_values : Body → Option (List Range)
dst_values (body.Leaf (leaf.Dst values)) = Some values
dst_values b = None

abbrev pub values_in : Option Acl → Option (List Range)
values_in None = None
values_in (Some a) = dst_values a.body

-- the values of the acl whose name has ` literal` behind this
abbrev pub literal_values : List Acl → Option (List ℕ) → Option (List Range)
literal_values acls None = None
literal_values acls (Some name) = values_in (acl_named acls (literal_name name))

-- the values for which the acl of this name asks: it is `N lookup`, and they are those of
-- `N literal`
abbrev pub asked_values : Configuration → List ℕ → Option (List Range)
asked_values c name = if c.dst_lookup && asks (acl_named c.acls name)
    then literal_values c.acls (before_end (codes " lookup") name) else None

-- the values for which a question asks, where it is a key of the configuration
abbrev pub key_values : Configuration → Option LookupKey → Option (List Range)
key_values c None = None
key_values c (Some k) = asked_values c k.acl

-- some address lies in some of these values
abbrev pub some_within : List Range → List Address → Bool
some_within values addrs = list_any (λ a. in_ranges values (Some a)) addrs

-- OK where some address lies in the values, ERR where none does; BH where there are no values, or
-- nothing was found out
abbrev pub reply_over : Option (List Range) → Option (List Address) → List ℕ
reply_over None found = codes "BH"
reply_over (Some values) None = codes "BH"
reply_over (Some values) (Some addrs) = if some_within values addrs then codes "OK" else codes "ERR"

-- the reply to a question, over what was found of its host
abbrev pub reply_text : Configuration → List ℕ → Option (List Address) → List ℕ
reply_text c question found = reply_over (key_values c (lookup_key question)) found
