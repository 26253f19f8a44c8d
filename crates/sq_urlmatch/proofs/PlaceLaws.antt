-- From the patterns of all acls to those at a place.
use Rattle.std.proofs.Common.{◌≡◌, ℕ, zero, suc, List, [], ◌∷◌, refl, get_or}
use Rattle.sq_rules.specs.declared.configs.Acl.{Acl}
use Rattle.sq_urlmatch.specs.Found.{finds_at, finds_of_each}

-- of the patterns of each acl those at a place are the patterns of the acl there
pub finds_in_place : (acls : List Acl) (place : ℕ) → get_or (finds_of_each acls) place [] ≡ finds_at acls place
finds_in_place [] place = refl
finds_in_place (a ∷ acls) zero = refl
finds_in_place (a ∷ acls) (suc place) = finds_in_place acls place
