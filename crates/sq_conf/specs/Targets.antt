-- The acl that a line names.
use Rattle.std.specs.Prelude.{◌≡◌, ℕ, ◌<◌, List, Bool, length, true, false, nat_lt, None, IfSome}
use Rattle.std.specs.declared.option.Option.{Option}
use Rattle.sq_rules.specs.Building.{place_of}
use Rattle.sq_rules.specs.Limits.{acl_limit}
use Rattle.sq_rules.specs.Lookups.{has_blank, stated_acls}
use Rattle.sq_rules.specs.declared.configs.Acl.{Acl}

-- the place of the acl of this name; where there is none, there is room for it. The name is a word,
-- which holds no blank
pub record IsTarget (lookup : Bool) (acls : List Acl) (name : List ℕ) (place : Option ℕ) : Type 0
  where
    pub place_is : place ≡ place_of acls name
    pub within : IfSome place (λ p. p < length acls)
    pub room : place ≡ None → nat_lt (stated_acls lookup acls) acl_limit ≡ true
    pub word : has_blank name ≡ false
