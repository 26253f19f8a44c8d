-- What a match of an acl of type dst says (configuration reference, `acl`: type dst).
use Rattle.std.specs.Prelude.{◌≡◌, ℕ, ◌-◌, ◌⊎◌, List, Bool, true, false, Some, None, slice_get}
use Rattle.sq_base.specs.declared.addresses.Range.{Range}
use Rattle.sq_base.specs.declared.helpers.Answer.{Answer}
use Rattle.sq_base.specs.declared.helpers.Pair.{Pair}
use Rattle.sq_base.specs.declared.helpers.What.TheVariants as what
use Rattle.sq_dst.specs.LookupKeys.{lookup_text}
use Rattle.sq_rules.specs.Configurations.{Configuration}
use Rattle.sq_rules.specs.Leaves.{in_ranges}
use Rattle.sq_rules.specs.Lookups.{is_last_of_four, literal_name, lookup_name, name_at, plain_term}
use Rattle.sq_rules.specs.Values.{answer_for, taken_at, term_value}
use Rattle.sq_rules.specs.declared.configs.Acl.{Acl}
use Rattle.sq_rules.specs.declared.configs.Body.TheVariants as body
use Rattle.sq_rules.specs.declared.leaves.Leaf.TheVariants as leaf
use Rattle.sq_rules.specs.declared.sights.Sight.{Sight}
use Rattle.sq_rules.specs.declared.values.TermValue.TheVariants.{Hit}

-- an acl with these values of type dst stands at the place
abbrev pub HasValues : List Acl → ℕ → List ℕ → List Range → Type 0
HasValues acls place name values = slice_get acls place
    ≡ Some (record { name = name; body = body.Leaf (leaf.Dst values) })

-- the acl at the place has this name and, as a file states it, type dst and these values; where
-- names are looked up, it is the last of four, and they are those of the first
abbrev pub IsDstAt : Bool → List Acl → ℕ → List ℕ → List Range → Type 0
IsDstAt false acls place name values = HasValues acls place name values
IsDstAt true acls place name values = (is_last_of_four acls place ≡ true)
    × (name_at (slice_get acls place) ≡ name)
    × HasValues acls (place - 3) (literal_name name) values

-- there is an answer OK to the question that the acl of this name asks about this host
abbrev pub IsAnsweredOk : List Answer → List ℕ → List ℕ → Type 0
IsAnsweredOk answers host name = (pairs : List Pair)
    × (answer_for answers 0 (lookup_text host (lookup_name name)) ≡ Some (what.Yes pairs))

-- each acl of type dst that matches has the host, which is an address, in its values; or the host
-- is a name, and there is an answer OK for that host and that acl
abbrev pub AreDstHits : Configuration → Sight → List Answer → Type 0
AreDstHits c s answers = (place : ℕ) (name : List ℕ) (values : List Range)
    → IsDstAt c.dst_lookup c.acls place name values
    → term_value (taken_at c s answers) c.acls (plain_term place) ≡ Hit
    → (in_ranges values s.request.literal ≡ true)
    ⊎ ((c.dst_lookup ≡ true) × (s.request.literal ≡ None)
    × IsAnsweredOk answers s.request.host name)
