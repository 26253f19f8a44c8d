-- Where trees and programs are found, by the patterns that they stand for, and the patterns of acls
-- (configuration reference, `acl`, type url_regex).
use Rattle.std.specs.Prelude.{◌≡◌, ◌<◌, ℕ, suc, Bool, List, [], ◌∷◌, All, map, is_some, Some, None, if◌then◌else◌, slice_get}
use Rattle.std.specs.declared.option.Option.{Option}
use Rattle.regex_hir.specs.Find.{find}
use Rattle.regex_hir.specs.Meaning.{meaning}
use Rattle.regex_hir.specs.declared.hir.Hir.{Hir}
use Rattle.regex_meta.specs.declared.program.Program.{Program}
use Rattle.sq_rules.specs.Patterns.{is_found, is_pattern, some_found}
use Rattle.sq_rules.specs.declared.configs.Acl.{Acl}
use Rattle.sq_rules.specs.declared.configs.Body.{Body}
use Rattle.sq_rules.specs.declared.configs.Body.TheVariants as body
use Rattle.sq_rules.specs.declared.leaves.Find.{Find}
use Rattle.sq_rules.specs.declared.leaves.Leaf.{Leaf}
use Rattle.sq_rules.specs.declared.leaves.Leaf.TheVariants as leaf
use Rattle.sq_urlmatch.specs.Programs.{some_program}
use Rattle.sq_urlmatch.specs.declared.setup.SetupFault.{SetupFault}
use Rattle.sq_urlmatch.specs.declared.setup.SetupFault.TheVariants.{BadPattern}

-- the tree is found in the text
abbrev pub tree_found : List ℕ → Hir → Bool
tree_found text tree = is_some (find (meaning tree) text 0)

-- the tree is found in the same texts of bytes as the pattern
abbrev pub IsFoundAlike : Find → Hir → Type 0
IsFoundAlike f tree = (text : List ℕ) → All (λ b. b < 256) text
    → tree_found text tree ≡ is_found f text

-- each tree is found in the same texts as the pattern in its place
abbrev pub AreFoundAlike : List Find → List Hir → Type 0
AreFoundAlike finds trees = (text : List ℕ) → All (λ b. b < 256) text
    → map (tree_found text) trees ≡ map (λ f. is_found f text) finds

-- some program is found in the same texts as some pattern
abbrev pub FindSome : List Find → List Program → Type 0
FindSome finds programs = (text : List ℕ) → All (λ b. b < 256) text
    → some_program text programs ≡ some_found finds text

-- the patterns of a leaf
abbrev pub finds_of_leaf : Leaf → List Find
finds_of_leaf (leaf.UrlRegex finds) = finds
finds_of_leaf l = []

-- the patterns of an acl; only url_regex has some
abbrev pub finds_in : Body → List Find
finds_in (body.Leaf l) = finds_of_leaf l
finds_in b = []

abbrev pub finds_of : Option Acl → List Find
finds_of None = []
finds_of (Some a) = finds_in a.body

-- the patterns of the acl at a place
abbrev pub finds_at : List Acl → ℕ → List Find
finds_at acls place = finds_of (slice_get acls place)

-- the patterns of each acl
abbrev pub finds_of_each : List Acl → List (List Find)
finds_of_each acls = map (λ a. finds_in a.body) acls

-- the first that is no pattern, where the first of these stands at this place
abbrev pub first_bad : ℕ → List Find → Option ℕ
first_bad place [] = None
first_bad place (f ∷ finds) = if is_pattern f then first_bad (suc place) finds else Some place

abbrev pub fault_at : ℕ → Option ℕ → Option SetupFault → Option SetupFault
fault_at acl None rest = rest
fault_at acl (Some pattern) rest = Some (BadPattern acl pattern)

-- the first acl and its first pattern that is none, where the first of these acls stands at this
-- place
abbrev pub fault_from : ℕ → List Acl → Option SetupFault
fault_from place [] = None
fault_from place (a ∷ acls) = fault_at place (first_bad 0 (finds_in a.body))
    (fault_from (suc place) acls)
