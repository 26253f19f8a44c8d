-- In the statement: docs/STATEMENT.md lists which definitions.
-- Lines `acl NAME TYPE VALUE ...` and `http_access allow|deny TERM ...` (configuration reference,
-- `acl`, `http_access`).
use Rattle.std.specs.Prelude.{ℕ, ◌-◌, List, [], ◌∷◌, ◌++◌, length, Bool, true, false, not, if◌then◌else◌, ◌&&◌, ◌||◌, ◌==◌, nat_lt, nat_le, Some, None, Ok, Err, is_some, is_none, codes}
use Rattle.std.specs.declared.option.Option.{Option}
use Rattle.std.specs.declared.result.Result.{Result}
use Rattle.sq_base.specs.Bytes.{bang}
use Rattle.sq_base.specs.NameTables.{beside}
use Rattle.sq_base.specs.Results.{◌>>=◌}
use Rattle.sq_rules.specs.AclValues.{is_unquoted, range_value, plain_value, port_value, method_value, maxconn_values, time_values, find_values}
use Rattle.sq_rules.specs.Building.{place_of, class_place}
use Rattle.sq_rules.specs.Changes.{type_at}
use Rattle.sq_rules.specs.Configurations.{are_shallow}
use Rattle.sq_rules.specs.Drafts.{Drafts, are_fast, with_acl_more, with_body, with_leaf, with_line, with_lookup, with_member}
use Rattle.sq_rules.specs.Limits.{acl_limit, name_limit, rule_limit}
use Rattle.sq_rules.specs.Lookups.{has_blank, literal_name, lookup_name, named_name, stated_acls}
use Rattle.sq_rules.specs.Steps.{WordList, unless, needed, word, over, over_some, some_of, one_more, begins}
use Rattle.sq_rules.specs.declared.acl_types.AclType.{AclType}
use Rattle.sq_rules.specs.declared.acl_types.AclType.TheVariants as type
use Rattle.sq_rules.specs.declared.configs.Acl.{Acl}
use Rattle.sq_rules.specs.declared.configs.Body.{Body}
use Rattle.sq_rules.specs.declared.configs.Body.TheVariants as body
use Rattle.sq_rules.specs.declared.configs.Term.{Term}
use Rattle.sq_rules.specs.declared.kinds.Kind.{Kind}
use Rattle.sq_rules.specs.declared.kinds.Kind.TheVariants.{BadValue, SlowInFastList, TooDeep, TooMany, TypeClash, UndefinedAcl, UndefinedClass, UnknownAclType}
use Rattle.sq_rules.specs.declared.leaves.Leaf.{Leaf}
use Rattle.sq_rules.specs.declared.leaves.Leaf.TheVariants as leaf

-- a name does not begin with `!`, is short, and holds no blank, as no word of a line does
abbrev pub is_name : List ℕ → Bool
is_name w = not (begins bang w) && (nat_le (length w) name_limit && not (has_blank w))

-- the place of the acl of this name, or room for one more
abbrev pub acl_named : Bool → List Acl → List ℕ → Result (Option ℕ) Kind
acl_named lookup acls w =
    unless (is_name w) BadValue
    (unless (is_some (place_of acls w) || nat_lt (stated_acls lookup acls) acl_limit) TooMany
    (Ok (place_of acls w)))

-- the types by their names
abbrev pub acl_types : List (List ℕ × AclType)
acl_types =
    (codes "src", type.Src)
    ∷ (codes "dst", type.Dst)
    ∷ (codes "dstdomain", type.DstDomain)
    ∷ (codes "port", type.Port)
    ∷ (codes "method", type.Method)
    ∷ (codes "proto", type.Proto)
    ∷ (codes "time", type.Time)
    ∷ (codes "url_regex", type.UrlRegex)
    ∷ (codes "maxconn", type.MaxConn)
    ∷ (codes "external", type.External)
    ∷ (codes "any-of", type.AnyOf)
    ∷ (codes "all-of", type.AllOf)
    ∷ []

-- the type of this name
unfoldable pub acl_type : List ℕ → Result AclType Kind
acl_type w = needed UnknownAclType (beside acl_types w)

-- the types in their order
abbrev pub type_place : AclType → ℕ
type_place type.Src = 0
type_place type.Dst = 1
type_place type.DstDomain = 2
type_place type.Port = 3
type_place type.Method = 4
type_place type.Proto = 5
type_place type.Time = 6
type_place type.UrlRegex = 7
type_place type.MaxConn = 8
type_place type.External = 9
type_place type.AnyOf = 10
type_place type.AllOf = 11

-- whether two types are the same
abbrev pub same_type : AclType → AclType → Bool
same_type a b = type_place a == type_place b

-- whether an acl that may be there already has this type
abbrev pub is_of_type : AclType → Option AclType → Bool
is_of_type type None = true
is_of_type type (Some other) = same_type other type

-- the acl at the place, where there is one, has this type
abbrev pub has_type : List Acl → AclType → Option ℕ → Bool
has_type acls type None = true
has_type acls type (Some place) = is_of_type type (type_at acls place)

-- the word begins with `!`
abbrev pub is_negated : List ℕ → Bool
is_negated w = begins bang w

-- the name: the word without `!` at its front
abbrev pub term_name : List ℕ → List ℕ
term_name [] = []
term_name (b ∷ bs) = if b == bang then bs else (b ∷ bs)

-- the term over the acl at this place; a name without a place is undefined
abbrev pub term_from : Bool → Option ℕ → Result Term Kind
term_from negated None = Err UndefinedAcl
term_from negated (Some place) = Ok (record { acl = place; negated = negated })

-- TERM: NAME or !NAME of an acl that stands
unfoldable pub known_term : List Acl → List ℕ → Result Term Kind
known_term acls w = term_from (is_negated w) (place_of acls (term_name w))

-- a member of the group at a place: an acl whose first line stands before the group's
abbrev pub earlier_term : ℕ → List Acl → List ℕ → Result Term Kind
earlier_term place acls w = known_term acls w >>= λ t. unless (nat_lt t.acl place) UndefinedAcl
    (Ok t)

-- the drafts, where no rule of a pool or for a field has become slow and no group nests too deep
abbrev pub sound : Drafts → Result Drafts Kind
sound d = unless (are_fast d.acls d.pools d.headers) SlowInFastList
    (unless (are_shallow d.acls) TooDeep (Ok d))

-- one member of the group at a place
unfoldable pub member : ℕ → Drafts → List ℕ → Result Drafts Kind
member place d w =
    unless (is_unquoted w) BadValue
    (earlier_term place d.acls w >>= λ t. sound (with_body place (with_member t) d))

-- members of a group
abbrev pub members : ℕ → Drafts → WordList → Result Drafts Kind
members place d ws = over_some (member place) d ws

-- the members of a line of any-of; one that stands gets more
unfoldable pub any_of : List ℕ → Option ℕ → Drafts → WordList → Result Drafts Kind
any_of name None d ws = members (length d.acls) (with_acl_more name (body.AnyOf []) d) ws
any_of name (Some place) d ws = members place d ws

-- the members of a line of all-of, which stand by themselves
unfoldable pub all_of : List ℕ → Option ℕ → Drafts → WordList → Result Drafts Kind
all_of name None d ws = members (length d.acls)
    (with_body (length d.acls) with_line (with_acl_more name (body.AllOf []) d)) ws
all_of name (Some place) d ws = members place (with_body place with_line d) ws

-- values of a leaf acl; one that stands gets more
abbrev pub with_values : List ℕ → Option ℕ → Drafts → Leaf → Drafts
with_values name None d l = with_acl_more name (body.Leaf l) d
with_values name (Some place) d l = with_body place (with_leaf l) d

-- the acls after a line that gives these values to a leaf acl
abbrev pub leaf_line : List ℕ → Option ℕ → Drafts → Result Leaf Kind → Result Drafts Kind
leaf_line name place d values = values >>= λ l. Ok (with_values name place d l)

-- the names of what is made for an acl of type dst are free. No word holds a blank, so they are but
-- for one name: that of the values of an acl `dst` would be `dst literal`
abbrev pub are_free : List Acl → List ℕ → Bool
are_free acls name =
    is_none (place_of acls (literal_name name))
    && (is_none (place_of acls (lookup_name name)) && is_none (place_of acls (named_name name)))

-- values of an acl of type dst where names are looked up: a new one is four, and one that stands
-- gets more
unfoldable pub lookup_values : List ℕ → Option ℕ → Drafts → WordList → Result Drafts Kind
lookup_values name None d ws = unless (are_free d.acls name) BadValue
    (some_of range_value ws >>= λ v. Ok (with_lookup name v d))
lookup_values name (Some place) d ws = some_of range_value ws >>= λ v. Ok
    (with_body (place - 3) (with_leaf (leaf.Dst v)) d)

-- values of an acl of type dst
abbrev pub dst_values : List ℕ → Option ℕ → Drafts → WordList → Result Drafts Kind
dst_values name place d ws =
    if d.dst_lookup then lookup_values name place d ws
    else leaf_line name place d (some_of range_value ws >>= λ v. Ok (leaf.Dst v))

-- a class that stands
abbrev pub known_class : Drafts → List ℕ → Result ℕ Kind
known_class d w = unless (is_unquoted w) BadValue (needed UndefinedClass (class_place d.classes w))

-- CLASS and arguments
unfoldable pub external_body : Drafts → WordList → Result Body Kind
external_body d ws = do
  class ← word ws
  place ← known_class d class.0
  arguments ← over (one_more plain_value) [] class.1
  Ok (body.External place arguments)

-- an external acl has one line
unfoldable pub external_line : List ℕ → Option ℕ → Drafts → WordList → Result Drafts Kind
external_line name place d ws = unless (is_none place) BadValue
    (external_body d ws >>= λ b. Ok (with_acl_more name b d))

-- what a line of this type adds
unfoldable pub acl_values : AclType → List ℕ → Option ℕ → Drafts → WordList → Result Drafts Kind
acl_values type.Src name place d ws = leaf_line name place d
    (some_of range_value ws >>= λ v. Ok (leaf.Src v))
acl_values type.Dst name place d ws = dst_values name place d ws
acl_values type.DstDomain name place d ws = leaf_line name place d
    (some_of plain_value ws >>= λ v. Ok (leaf.DstDomain v))
acl_values type.Port name place d ws = leaf_line name place d
    (some_of port_value ws >>= λ v. Ok (leaf.Port v))
acl_values type.Method name place d ws = leaf_line name place d
    (some_of method_value ws >>= λ v. Ok (leaf.Method v))
acl_values type.Proto name place d ws = leaf_line name place d
    (some_of plain_value ws >>= λ v. Ok (leaf.Proto v))
acl_values type.Time name place d ws = leaf_line name place d
    (time_values ws >>= λ v. Ok (leaf.Time v))
acl_values type.UrlRegex name place d ws = leaf_line name place d
    (find_values ws >>= λ v. Ok (leaf.UrlRegex v))
acl_values type.MaxConn name place d ws = leaf_line name place d
    (maxconn_values ws >>= λ v. Ok (leaf.MaxConn v))
acl_values type.External name place d ws = external_line name place d ws
acl_values type.AnyOf name place d ws = any_of name place d ws
acl_values type.AllOf name place d ws = all_of name place d ws

-- acl NAME TYPE VALUE ...
unfoldable pub acl_line : Drafts → WordList → Result Drafts Kind
acl_line d ws = do
  name ← word ws
  place ← acl_named d.dst_lookup d.acls name.0
  kind ← word name.1
  type ← acl_type kind.0
  unless (has_type d.acls type place) TypeClash (acl_values type name.0 place d kind.1)

-- what a rule may do: true allows
abbrev pub actions : List (List ℕ × Bool)
actions = (codes "allow", true) ∷ (codes "deny", false) ∷ []

-- allow or deny
unfoldable pub action : List ℕ → Result Bool Kind
action w = needed BadValue (beside actions w)

-- terms of acls that stand
abbrev pub known_terms : List Acl → WordList → Result (List Term) Kind
known_terms acls ws = some_of (known_term acls) ws

-- http_access allow|deny TERM ...
unfoldable pub rule_line : Drafts → WordList → Result Drafts Kind
rule_line d ws = do
  first ← word ws
  allow ← action first.0
  terms ← unless (nat_lt (length d.rules) rule_limit) TooMany (known_terms d.acls first.1)
  Ok (record d { rules = d.rules ++ (record { allow = allow; terms = terms }) ∷ [] })
