-- In the statement: docs/STATEMENT.md lists which definitions.
-- Acls of type `dst` where the names of hosts are looked up. Each is four acls: its values, which a
-- host that is an address meets; an acl that asks for the look-up of a name; and two groups over
-- these. No word of a file holds a blank, so no name of a file is one of theirs (configuration
-- reference, `acl`; `dst_lookup` is this program's own).
use Rattle.std.specs.Prelude.{ℕ, ◌≤◌, ◌-◌, ◌^◌, suc, List, [], ◌∷◌, ◌++◌, length, Bool, true, false, not, ◌&&◌, ◌||◌, ◌==◌, nat_le, bytes_eq, codes, if◌then◌else◌, Some, None, slice_get}
use Rattle.std.specs.List.{list_any}
use Rattle.std.specs.declared.option.Option.{Option}
use Rattle.sq_base.specs.Lines.{is_blank}
use Rattle.sq_base.specs.Ranges.{all_addresses}
use Rattle.sq_base.specs.declared.addresses.Range.{Range}
use Rattle.sq_rules.specs.Classes.{Class}
use Rattle.sq_rules.specs.Limits.{children_limit, class_limit, queue_limit}
use Rattle.sq_rules.specs.declared.classes.Token.{Token}
use Rattle.sq_rules.specs.declared.classes.Token.TheVariants as token
use Rattle.sq_rules.specs.declared.configs.Acl.{Acl}
use Rattle.sq_rules.specs.declared.configs.Body.{Body}
use Rattle.sq_rules.specs.declared.configs.Body.TheVariants as body
use Rattle.sq_rules.specs.declared.configs.Term.{Term}
use Rattle.sq_rules.specs.declared.leaves.Leaf.TheVariants as leaf

-- a space or a tab stands in the name
abbrev pub has_blank : List ℕ → Bool
has_blank name = list_any is_blank name

-- how many of these have a name without a blank
abbrev pub unmade : {A : Type 0} → (A → List ℕ) → List A → ℕ
unmade name_of [] = 0
unmade name_of (a ∷ list) = if has_blank (name_of a) then unmade name_of list
    else suc (unmade name_of list)

abbrev pub unmade_acls : List Acl → ℕ
unmade_acls acls = unmade (λ a. a.name) acls

-- how many of these a file states: all, or where names are looked up those that are not made
abbrev pub stated_of : {A : Type 0} → Bool → (A → List ℕ) → List A → ℕ
stated_of true name_of list = unmade name_of list
stated_of false name_of list = length list

-- how many acls the file stated
abbrev pub stated_acls : Bool → List Acl → ℕ
stated_acls lookup acls = stated_of lookup (λ a. a.name) acls

-- how many classes may stand: those that a file states, and the one that is made
abbrev pub classes_within : Bool → ℕ
classes_within true = suc class_limit
classes_within false = class_limit

-- how many of some classes a file states
abbrev pub stated_classes : Bool → List Class → ℕ
stated_classes true classes = length classes - 1
stated_classes false classes = length classes

-- the names of what is made for the acl of a name
abbrev pub literal_name : List ℕ → List ℕ
literal_name name = name ++ codes " literal"

-- the name of the acl that asks for the look-up
abbrev pub lookup_name : List ℕ → List ℕ
lookup_name name = name ++ codes " lookup"

-- the name of the group that holds of hosts with names
abbrev pub named_name : List ℕ → List ℕ
named_name name = name ++ codes " named"

-- an acl without `!`, by its place
abbrev pub plain_term : ℕ → Term
plain_term place = record { acl = place; negated = false }

-- `!` and the first acl, which is `dst literal`
abbrev pub no_literal : Term
no_literal = record { acl = 0; negated = true }

-- the acl that holds of each host that is an address
abbrev pub literal_acl : Acl
literal_acl = record {
  name = codes "dst literal";
  body = body.Leaf (leaf.Dst (all_addresses ∷ []));
}

-- the four acls of one of type dst, the first of which stands at this place: its values; the
-- look-up, by the first class; all-of `!dst literal` and the look-up; any-of the values and that
abbrev pub values_acl : List ℕ → List Range → Acl
values_acl name values = record { name = literal_name name; body = body.Leaf (leaf.Dst values) }

-- the acl that asks for the look-up of a host's name
abbrev pub asking_acl : List ℕ → Acl
asking_acl name = record { name = lookup_name name; body = body.External 0 [] }

-- the group that asks where the host is no address
abbrev pub named_acl : ℕ → List ℕ → Acl
named_acl place name = record {
  name = named_name name;
  body = body.AllOf ((no_literal ∷ plain_term (suc place) ∷ []) ∷ []);
}

-- the group under the file's name: the values, or the look-up
abbrev pub either_acl : ℕ → List ℕ → Acl
either_acl place name = record {
  name = name;
  body = body.AnyOf (plain_term place ∷ plain_term (suc (suc place)) ∷ []);
}

-- the four acls of one list of type `dst`
abbrev pub looked_up : ℕ → List ℕ → List Range → List Acl
looked_up place name values = values_acl name values ∷ asking_acl name ∷ named_acl place name
    ∷ either_acl place name ∷ []

-- how many names are looked up at once, and how many further questions wait
pub record LookupSizes : Type 0 where
  pub children_max : ℕ
  pub queue_size : ℕ

-- both lie in their ranges
pub record AreLookupSizes (s : LookupSizes) : Type 0 where
  pub some_children : 1 ≤ s.children_max
  pub few_children : s.children_max ≤ children_limit
  pub queue_size_is : s.queue_size ≤ queue_limit

-- the class by which names are looked up
abbrev pub lookup_class : LookupSizes → Class
lookup_class s = record {
  name = codes "dst lookup";
  ttl = 60;
  negative_ttl = 60;
  grace = 0;
  cache = 262144;
  children_max = s.children_max;
  startup = 0;
  concurrency = 0;
  queue_size = s.queue_size;
  format = token.Host ∷ token.AclName ∷ token.Arguments ∷ [];
  words = codes "dst lookup" ∷ [];
}

-- tests of these: an acl of values of type dst
abbrev pub is_dst : Body → Bool
is_dst (body.Leaf (leaf.Dst values)) = true
is_dst b = false

abbrev pub is_all : Range → Bool
is_all r = not r.first.v6 && r.first.number == 0 && r.last.v6 && r.last.number == 2 ^ 128 - 1

-- a list of which the first range is every address
abbrev pub begins_with_all : List Range → Bool
begins_with_all [] = false
begins_with_all (r ∷ ranges) = is_all r

abbrev pub holds_all : Body → Bool
holds_all (body.Leaf (leaf.Dst values)) = begins_with_all values
holds_all b = false

abbrev pub is_plain : ℕ → Term → Bool
is_plain place t = t.acl == place && not t.negated

abbrev pub is_no_literal : Term → Bool
is_no_literal t = t.acl == 0 && t.negated

abbrev pub has_no_words : List (List ℕ) → Bool
has_no_words [] = true
has_no_words (w ∷ ws) = false

abbrev pub is_asking : Body → Bool
is_asking (body.External class arguments) = class == 0 && has_no_words arguments
is_asking b = false

abbrev pub are_named : ℕ → List Term → Bool
are_named place (t ∷ u ∷ []) = is_no_literal t && is_plain (suc place) u
are_named place terms = false

abbrev pub is_named_body : ℕ → Body → Bool
is_named_body place (body.AllOf (terms ∷ [])) = are_named place terms
is_named_body place b = false

abbrev pub are_either : ℕ → List Term → Bool
are_either place (t ∷ u ∷ []) = is_plain place t && is_plain (suc (suc place)) u
are_either place terms = false

abbrev pub is_either_body : ℕ → Body → Bool
is_either_body place (body.AnyOf terms) = are_either place terms
is_either_body place b = false

-- behind an acl of values, which stands at this place, stand the three others of the four
abbrev pub are_behind : ℕ → Acl → List Acl → Bool
are_behind place a (b ∷ c ∷ d ∷ acls) =
    bytes_eq a.name (literal_name d.name)
    && (bytes_eq b.name (lookup_name d.name) && (is_asking b.body
    && (bytes_eq c.name (named_name d.name)
    && (is_named_body place c.body && is_either_body place d.body))))
are_behind place a acls = false

-- of some acls, the first of which stands at this place, each of type dst but the very first is the
-- first of four
abbrev pub are_in_four : ℕ → List Acl → Bool
are_in_four place [] = true
are_in_four place (a ∷ acls) = (not (is_dst a.body) || place == 0 || are_behind place a acls)
    && are_in_four (suc place) acls

-- the first acl is `dst literal`
abbrev pub begins_literal : List Acl → Bool
begins_literal [] = false
begins_literal (a ∷ acls) = bytes_eq a.name (codes "dst literal") && holds_all a.body

-- the key is the host, the acl's name, and `-`
abbrev pub is_lookup_format : List Token → Bool
is_lookup_format (token.Host ∷ token.AclName ∷ token.Arguments ∷ []) = true
is_lookup_format format = false

abbrev pub is_lookup_program : List (List ℕ) → Bool
is_lookup_program (w ∷ []) = bytes_eq w (codes "dst lookup")
is_lookup_program words = false

-- the first class is `dst lookup`
abbrev pub begins_lookup : List Class → Bool
begins_lookup [] = false
begins_lookup (c ∷ classes) = bytes_eq c.name (codes "dst lookup")
    && (is_lookup_format c.format && is_lookup_program c.words)

-- where names are looked up, the class of look-ups and `dst literal` stand first, and each acl of
-- type dst is four
abbrev pub are_looked_up : Bool → List Class → List Acl → Bool
are_looked_up false classes acls = true
are_looked_up true classes acls = begins_lookup classes
    && (begins_literal acls && are_in_four 0 acls)

-- the first is the acl of values that is made for the second
abbrev pub is_values_of : Option Acl → Option Acl → Bool
is_values_of (Some l) (Some a) = is_dst l.body && bytes_eq l.name (literal_name a.name)
is_values_of l a = false

-- the acl at the place is the last of four: three places before it, and behind `dst literal`,
-- stands that of its values
abbrev pub is_last_of_four : List Acl → ℕ → Bool
is_last_of_four acls place = nat_le 4 place
    && is_values_of (slice_get acls (place - 3)) (slice_get acls place)

abbrev pub name_at : Option Acl → List ℕ
name_at None = []
name_at (Some a) = a.name

-- the acl at the place may get members: where names are looked up, it is one that a file states,
-- and not the last of four
abbrev pub takes_members : Bool → List Acl → ℕ → Bool
takes_members lookup acls place = not lookup
    || (not (has_blank (name_at (slice_get acls place))) && not (is_last_of_four acls place))
