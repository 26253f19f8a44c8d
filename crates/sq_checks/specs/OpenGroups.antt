-- The open groups of a place in rules, as a value.
use Rattle.std.specs.Prelude.{ℕ, List}
use Rattle.sq_rules.specs.Configurations.{greatest_of, nestings}
use Rattle.sq_rules.specs.declared.configs.Acl.{Acl}
use Rattle.sq_checks.specs.declared.spots.GroupSpot.{GroupSpot}

-- how many groups may be open, and those that are, the innermost first
pub record OpenGroups : Type 0 where
  pub room : ℕ
  pub list : List GroupSpot

-- how deep the deepest of some acls nests; 0 where there is no group
abbrev pub depth_of : List Acl → ℕ
depth_of acls = greatest_of (λ n. n) (nestings acls)
