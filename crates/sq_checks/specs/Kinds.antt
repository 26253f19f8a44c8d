-- Which acls are lists of values, and which are groups.
use Rattle.std.specs.Prelude.{ℕ, List, Bool, true, false, Some, None, slice_get}
use Rattle.std.specs.declared.option.Option.{Option}
use Rattle.sq_rules.specs.Configurations.{is_leaf_body}
use Rattle.sq_rules.specs.declared.configs.Acl.{Acl}
use Rattle.sq_rules.specs.declared.configs.Body.{Body}
use Rattle.sq_rules.specs.declared.configs.Body.TheVariants as body

abbrev pub leaf_of : Option Acl → Bool
leaf_of None = false
leaf_of (Some a) = is_leaf_body a.body

-- at this place stands a leaf acl
abbrev pub is_leaf_at : List Acl → ℕ → Bool
is_leaf_at acls acl = leaf_of (slice_get acls acl)

abbrev pub group_body : Body → Bool
group_body (body.Leaf l) = false
group_body (body.External class arguments) = false
group_body (body.AnyOf terms) = true
group_body (body.AllOf lines) = true

abbrev pub group_of : Option Acl → Bool
group_of None = false
group_of (Some a) = group_body a.body

-- at this place stands a group
abbrev pub is_group_at : List Acl → ℕ → Bool
is_group_at acls acl = group_of (slice_get acls acl)
