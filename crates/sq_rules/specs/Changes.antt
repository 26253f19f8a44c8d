-- In the statement: docs/STATEMENT.md lists which definitions.
-- What is asked of the acls of a configuration under way, beside the changes of `Drafts`
-- (configuration reference, `acl`).
use Rattle.std.specs.Prelude.{◌≡◌, ℕ, List, Bool, true, false, if◌then◌else◌, Option, Some, None, slice_get}
use Rattle.std.specs.List.{list_all}
use Rattle.sq_rules.specs.Configurations.{nestings, slow_ones}
use Rattle.sq_rules.specs.Drafts.{are_patterns, change_body, type_of_body, with_member}
use Rattle.sq_rules.specs.Lookups.{is_last_of_four}
use Rattle.sq_rules.specs.declared.acl_types.AclType.{AclType}
use Rattle.sq_rules.specs.declared.acl_types.AclType.TheVariants as type
use Rattle.sq_rules.specs.declared.configs.Acl.{Acl}
use Rattle.sq_rules.specs.declared.configs.Body.{Body}
use Rattle.sq_rules.specs.declared.configs.Body.TheVariants as body
use Rattle.sq_rules.specs.declared.configs.Term.{Term}

-- the type of an acl, if it is there
abbrev pub type_of_acl : Option Acl → Option AclType
type_of_acl None = None
type_of_acl (Some a) = Some (type_of_body a.body)

-- the type of the acl at a place; the last of four is the one that a file states as `dst`
abbrev pub type_at : List Acl → ℕ → Option AclType
type_at acls place = if is_last_of_four acls place then Some type.Dst
    else type_of_acl (slice_get acls place)

-- an acl that has members
abbrev pub is_group : Body → Bool
is_group (body.Leaf l) = false
is_group (body.External class arguments) = false
is_group (body.AnyOf terms) = true
is_group (body.AllOf lines) = true

-- the acls with a member more in the group at a place
abbrev pub with_member_at : ℕ → Term → List Acl → List Acl
with_member_at place t acls = change_body place (with_member t) acls

-- what is new, or else what was
abbrev pub or_before : {A : Type 0} → A → Option A → A
or_before before None = before
or_before before (Some new) = new

-- which acls are slow after a change: so many anew, or as before
abbrev pub AreSlowOnes : Option (List Bool) → List Acl → List Acl → Type 0
AreSlowOnes new before after = or_before (slow_ones before) new ≡ slow_ones after

-- how deep the acls nest after a change
abbrev pub AreDepths : Option (List ℕ) → List Acl → List Acl → Type 0
AreDepths new before after = or_before (nestings before) new ≡ nestings after

-- each pattern of the acl is one
abbrev pub has_patterns : Body → Bool
has_patterns (body.Leaf l) = are_patterns l
has_patterns (body.External class arguments) = true
has_patterns (body.AnyOf terms) = true
has_patterns (body.AllOf lines) = true

-- each pattern of each acl is one
abbrev pub all_patterns : List Acl → Bool
all_patterns acls = list_all (λ a. has_patterns a.body) acls
