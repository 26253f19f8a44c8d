-- From single trees and programs to lists of them.
use Rattle.std.proofs.Common.{◌≡◌, ℕ, suc, Bool, true, false, ◌&&◌, ◌||◌, List, [], ◌∷◌, ◌++◌, map, refl, sym, ap, ◌∙◌, is_some, None, if◌then◌else◌, Option, Some}
use Rattle.std.proofs.lemmas.List.Folds.{Any-from_list_any, list_any-append, list_any-from_Any}
use Rattle.std.specs.List.{list_all, list_any}
use Rattle.regex.proofs.UnionLemmas.{any_of_union}
use Rattle.regex_hir.specs.Find.{find}
use Rattle.regex_hir.specs.Meaning.{alt_all, meaning}
use Rattle.regex_hir.specs.Re.{Re}
use Rattle.regex_hir.specs.declared.hir.Hir.{Hir}
use Rattle.regex_meta.specs.Programs.{pattern_of}
use Rattle.regex_meta.specs.declared.program.Program.{Program}
use Rattle.regex_syntax.proofs.GrammarLemmas.{list_any-map}
use Rattle.sq_rules.specs.Patterns.{is_found, is_pattern}
use Rattle.sq_rules.specs.declared.leaves.Find.{Find}
use Rattle.sq_urlmatch.specs.Found.{AreFoundAlike, FindSome, IsFoundAlike, first_bad, tree_found}
use Rattle.sq_urlmatch.specs.Programs.{program_found}

same_tests : (x y : Bool) → (x ≡ true → y ≡ true) → (y ≡ true → x ≡ true) → x ≡ y
same_tests true y there back = sym (there refl)
same_tests false true there back = back refl
same_tests false false there back = refl

-- the alternation is found where one of its trees is
any_tree : (trees : List Hir) (re : Re) → re ≡ alt_all (map meaning trees) → (text : List ℕ) (found : Bool) →
    found ≡ is_some (find re text 0) → found ≡ list_any (tree_found text) trees
any_tree trees re e text found is =
    let res = map meaning trees in
    let ask = λ (it : Re). is_some (find it text 0) in
    let either = any_of_union false re res ∣ e ∣₁ text 0 (λ b within. ∣ refl ∣₁) found is in
    same_tests found (list_any (λ b. b) (map ask res))
    (λ some. list_any-from_Any (λ b. b) (map ask res) (either.0 some))
    (λ some. either.1 (Any-from_list_any (λ b. b) (map ask res) some))
    ∙ list_any-map (λ b. b) ask res ∙ list_any-map ask meaning trees

or_false : (b : Bool) → (b || false) ≡ b
or_false true = refl
or_false false = refl

-- from each tree and its pattern to the program of all of them
pub whole_finds : (finds : List Find) (trees : List Hir) (p : Program) → pattern_of p ≡ alt_all (map meaning trees)
    → AreFoundAlike finds trees → FindSome finds (p ∷ [])
whole_finds finds trees p e alike text bytes =
    or_false (program_found text p)
    ∙ any_tree trees (pattern_of p) e text (is_some (find (pattern_of p) text 0)) refl
    ∙ sym (list_any-map (λ b. b) (tree_found text) trees) ∙ ap (list_any (λ b. b)) (alike text bytes)
    ∙ list_any-map (λ b. b) (λ f. is_found f text) finds

-- from a tree and its pattern to its program
pub single_finds : (f : Find) (tree : Hir) (p : Program) → p.hir ≡ tree → IsFoundAlike f tree
    → FindSome (f ∷ []) (p ∷ [])
single_finds f tree p e alike text bytes =
    let same : program_found text p ≡ is_found f text = ap (tree_found text) e ∙ alike text bytes in
    ap (λ b. b || false) same

-- two lists of patterns, and their programs
pub more_finds : (finds more : List Find) (programs others : List Program) → FindSome finds programs
    → FindSome more others → FindSome (finds ++ more) (programs ++ others)
more_finds finds more programs others found other text bytes =
    rw (
      list_any-append (program_found text) programs others,
      list_any-append (λ f. is_found f text) finds more,
      found text bytes,
      other text bytes,
    ) refl

both_true : (b : Bool) (o : Option ℕ) (n : ℕ) (all : Bool) → (if b then o else Some n) ≡ None → (o ≡ None → all ≡ true)
    → (b && all) ≡ true
both_true true o n all e k = k e
both_true false o n all e k = cc

-- where none is bad, all are patterns
pub all_good : (place : ℕ) (finds : List Find) → first_bad place finds ≡ None → list_all is_pattern finds ≡ true
all_good place [] e = refl
all_good place (f ∷ finds) e = both_true (is_pattern f) (first_bad (suc place) finds) place (list_all is_pattern finds)
    e (all_good (suc place) finds)
