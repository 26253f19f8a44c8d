-- A group that a line names may get members.
use Rattle.std.proofs.Common.{◌≡◌, ℕ, List, Bool, true, false, not, refl, sym, ap, ◌∙◌, Option, Some, slice_get, if◌then◌else◌}
use Rattle.std.proofs.lemmas.Bool.{and_from}
use Rattle.sq_rules.proofs.LookupLaws.{placed_name}
use Rattle.sq_rules.specs.AclLines.{has_type, is_of_type}
use Rattle.sq_rules.specs.Building.{place_of}
use Rattle.sq_rules.specs.Changes.{type_of_acl}
use Rattle.sq_rules.specs.Lookups.{has_blank, is_last_of_four, name_at, takes_members}
use Rattle.sq_rules.specs.declared.acl_types.AclType.{AclType}
use Rattle.sq_rules.specs.declared.acl_types.AclType.TheVariants as type
use Rattle.sq_rules.specs.declared.configs.Acl.{Acl}

-- an acl of another type than dst is the last of no four
not_any : (b : Bool) (o : Option AclType) → is_of_type type.AnyOf (if b then Some type.Dst else o) ≡ true → b ≡ false
not_any true o is = cc
not_any false o is = refl

not_all : (b : Bool) (o : Option AclType) → is_of_type type.AllOf (if b then Some type.Dst else o) ≡ true → b ≡ false
not_all true o is = cc
not_all false o is = refl

takes_here : (lookup : Bool) (acls : List Acl) (name : List ℕ) (p : ℕ) → Some p ≡ place_of acls name
    → has_blank name ≡ false → is_last_of_four acls p ≡ false → takes_members lookup acls p ≡ true
takes_here false acls name p at word last = refl
takes_here true acls name p at word last =
    and_from (not (has_blank (name_at (slice_get acls p)))) (not (is_last_of_four acls p))
    (ap (λ n. not (has_blank n)) (placed_name acls name p (sym at)) ∙ ap not word) (ap not last)

pub takes_any : (lookup : Bool) (acls : List Acl) (name : List ℕ) (p : ℕ) → Some p ≡ place_of acls name
    → has_blank name ≡ false → has_type acls type.AnyOf (Some p) ≡ true → takes_members lookup acls p ≡ true
takes_any lookup acls name p at word kind = takes_here lookup acls name p
    at word (not_any (is_last_of_four acls p) (type_of_acl (slice_get acls p)) kind)

pub takes_all : (lookup : Bool) (acls : List Acl) (name : List ℕ) (p : ℕ) → Some p ≡ place_of acls name
    → has_blank name ≡ false → has_type acls type.AllOf (Some p) ≡ true → takes_members lookup acls p ≡ true
takes_all lookup acls name p at word kind = takes_here lookup acls name p
    at word (not_all (is_last_of_four acls p) (type_of_acl (slice_get acls p)) kind)
