-- Where each pattern of each acl is one, no acl has a pattern that is none.
use Rattle.std.proofs.Common.{◌≡◌, ℕ, suc, List, [], ◌∷◌, Bool, true, false, ◌&&◌, Option, None, Some, refl, if◌then◌else◌}
use Rattle.std.specs.List.{list_all}
use Rattle.sq_rules.specs.Changes.{all_patterns, has_patterns}
use Rattle.sq_rules.specs.Drafts.{are_patterns}
use Rattle.sq_rules.specs.Patterns.{is_pattern}
use Rattle.sq_rules.specs.declared.configs.Acl.{Acl}
use Rattle.sq_rules.specs.declared.configs.Body.{Body}
use Rattle.sq_rules.specs.declared.configs.Body.TheVariants as body
use Rattle.sq_rules.specs.declared.leaves.Find.{Find}
use Rattle.sq_rules.specs.declared.leaves.Leaf.{Leaf}
use Rattle.sq_rules.specs.declared.leaves.Leaf.TheVariants as leaf
use Rattle.sq_urlmatch.specs.Found.{fault_at, fault_from, finds_in, finds_of_leaf, first_bad}
use Rattle.sq_urlmatch.specs.declared.setup.SetupFault.{SetupFault}

good_then : (a b : Bool) (n : ℕ) (o : Option ℕ) → (a && b) ≡ true → (b ≡ true → o ≡ None)
    → (if a then o else Some n) ≡ None
good_then true b n o all none = none all
good_then false b n o all none = cc

none_bad : (place : ℕ) (finds : List Find) → list_all is_pattern finds ≡ true → first_bad place finds ≡ None
none_bad place [] all = refl
none_bad place (f ∷ finds) all = good_then (is_pattern f) (list_all is_pattern finds) place
    (first_bad (suc place) finds) all (none_bad (suc place) finds)

leaf_good : (l : Leaf) → are_patterns l ≡ true → list_all is_pattern (finds_of_leaf l) ≡ true
leaf_good (leaf.Src values) good = refl
leaf_good (leaf.Dst values) good = refl
leaf_good (leaf.DstDomain values) good = refl
leaf_good (leaf.Port values) good = refl
leaf_good (leaf.Method values) good = refl
leaf_good (leaf.Proto values) good = refl
leaf_good (leaf.Time values) good = refl
leaf_good (leaf.UrlRegex finds) good = good
leaf_good (leaf.MaxConn values) good = refl

body_good : (b : Body) → has_patterns b ≡ true → list_all is_pattern (finds_in b) ≡ true
body_good (body.Leaf l) good = leaf_good l good
body_good (body.External class arguments) good = refl
body_good (body.AnyOf terms) good = refl
body_good (body.AllOf lines) good = refl

both_then : (a b : Bool) (acl : ℕ) (o : Option ℕ) (rest : Option SetupFault) → (a && b) ≡ true → (a ≡ true → o ≡ None)
    → (b ≡ true → rest ≡ None) → fault_at acl o rest ≡ None
both_then true b acl o rest all none no_more = rw (none refl) (no_more all)
both_then false b acl o rest all none no_more = cc

-- a configuration whose patterns all have their syntax has no first fault
pub no_fault : (place : ℕ) (acls : List Acl) → all_patterns acls ≡ true → fault_from place acls ≡ None
no_fault place [] all = refl
no_fault place (a ∷ acls) all =
    both_then (has_patterns a.body) (all_patterns acls) place (first_bad 0 (finds_in a.body))
    (fault_from (suc place) acls) all
    (λ good. none_bad 0 (finds_in a.body) (body_good a.body good))
    (no_fault (suc place) acls)
