-- The tables from which a configuration is built, and what they know of the acls so far.
use Rattle.std.specs.Prelude.{◌≡◌, ℕ, List, [], Bool, true, if◌then◌else◌, nat_le, Some, None}
use Rattle.std.specs.declared.option.Option.{Option}
use Rattle.std.specs.declared.result.Result.{Result}
use Rattle.sq_base.specs.Results.{◌>>=◌}
use Rattle.sq_rules.specs.Building.{acls_made, classes_made, each_made, header_made, pools_made, rule_made, unless_looked_up}
use Rattle.sq_rules.specs.Classes.{Class}
use Rattle.sq_rules.specs.Configurations.{are_shallow, are_unique, nestings, slow_ones}
use Rattle.sq_rules.specs.Limits.{nesting_limit}
use Rattle.sq_rules.specs.Lookups.{unmade_acls}
use Rattle.sq_rules.specs.Names.{KnowsPlaces}
use Rattle.sq_rules.specs.declared.configs.Acl.{Acl}
use Rattle.sq_rules.specs.declared.headers.HeaderRule.{HeaderRule}
use Rattle.sq_rules.specs.declared.parts.AclPart.{AclPart}
use Rattle.sq_rules.specs.declared.parts.BuildFault.{BuildFault}
use Rattle.sq_rules.specs.declared.parts.HeaderPart.{HeaderPart}
use Rattle.sq_rules.specs.declared.parts.PoolPart.{PoolPart}
use Rattle.sq_rules.specs.declared.parts.RulePart.{RulePart}

-- the acls have names of their own and nest no deeper than they may, and the rest is read from them
pub record KnowsAcls (acls : List Acl) (places : List (List ℕ × ℕ)) (depths : List ℕ)
    (slow : List Bool) (count : ℕ) : Type 0 where
  pub places_are : KnowsPlaces (λ a. a.name) places acls
  pub depths_are : depths ≡ nestings acls
  pub slow_are : slow ≡ slow_ones acls
  pub count_is : count ≡ unmade_acls acls
  pub unique : are_unique acls ≡ true
  pub shallow : are_shallow acls ≡ true

-- the nesting, where it is none too deep
abbrev pub allowed : ℕ → Option ℕ
allowed n = if nat_le n nesting_limit then Some n else None

-- the acls over these classes, or the first fault of both
abbrev pub tables_made : Bool → List Class → List AclPart → Result (List Acl) BuildFault
tables_made lookup classes acls = classes_made [] classes >>= λ made. acls_made made [] acls
    >>= unless_looked_up lookup made

-- the rules for fields over these acls, or the first fault of the rules, the pools and these
abbrev pub rule_lists_made : List Acl → List RulePart → List PoolPart → List HeaderPart
    → Result (List HeaderRule) BuildFault
rule_lists_made acls rules pools headers = each_made (rule_made acls) rules >>= λ _. pools_made acls
    0 pools >>= λ _. each_made (header_made acls) headers
