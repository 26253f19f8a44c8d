-- The external acls of a configuration by their slots: how many of them stand before.
use Rattle.std.specs.Prelude.{ℕ, ◌+◌, List, [], ◌∷◌, Bool, true, false, if◌then◌else◌, Some, None, slice_get}
use Rattle.std.specs.declared.option.Option.{Option}
use Rattle.sq_rules.specs.declared.configs.Acl.{Acl}
use Rattle.sq_rules.specs.declared.configs.Body.{Body}
use Rattle.sq_rules.specs.declared.configs.Body.TheVariants as body

-- an acl that asks a helper
abbrev pub is_external : Body → Bool
is_external (body.Leaf l) = false
is_external (body.External class arguments) = true
is_external (body.AnyOf terms) = false
is_external (body.AllOf lines) = false

-- at this place stands an acl that asks a helper
abbrev pub external_of : Option Acl → Bool
external_of None = false
external_of (Some a) = is_external a.body

abbrev pub is_external_at : List Acl → ℕ → Bool
is_external_at acls place = external_of (slice_get acls place)

-- how many of these acls ask a helper, where so many stand before
abbrev pub externals_on : ℕ → List Acl → ℕ
externals_on count [] = count
externals_on count (a ∷ acls) = externals_on (if is_external a.body then count + 1 else count) acls

-- how many external acls stand before each of these acls, where so many stand before the first
abbrev pub slots_on : ℕ → List Acl → List ℕ
slots_on count [] = []
slots_on count (a ∷ acls) = count ∷ slots_on (if is_external a.body then count + 1 else count) acls

-- the slot of each acl; that of one that is not external says nothing
abbrev pub slots_of : List Acl → List ℕ
slots_of acls = slots_on 0 acls
