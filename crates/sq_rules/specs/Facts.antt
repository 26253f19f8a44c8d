-- The facts of a check: whether each leaf acl holds of what the check sees (configuration
-- reference, `acl`).
use Rattle.std.specs.Prelude.{Bool, false, List, map}
use Rattle.sq_rules.specs.Leaves.{holds}
use Rattle.sq_rules.specs.declared.configs.Acl.{Acl}
use Rattle.sq_rules.specs.declared.configs.Body.{Body}
use Rattle.sq_rules.specs.declared.configs.Body.TheVariants as body
use Rattle.sq_rules.specs.declared.sights.Sight.{Sight}

-- whether a leaf holds; of any other acl the fact is false, and says nothing
abbrev pub body_fact : Sight → Body → Bool
body_fact s (body.Leaf l) = holds l s
body_fact s (body.External class arguments) = false
body_fact s (body.AnyOf terms) = false
body_fact s (body.AllOf lines) = false

-- the fact of an acl
abbrev pub acl_fact : Sight → Acl → Bool
acl_fact s a = body_fact s a.body

-- the fact of each acl, in their order
abbrev pub facts_of : List Acl → Sight → List Bool
facts_of acls s = map (acl_fact s) acls
