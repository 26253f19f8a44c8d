-- A member more, a further line and further values: what they do to an acl's nesting, and to whether it
-- is slow.
use Rattle.std.proofs.Common.{◌≡◌, ℕ, suc, max, List, [], ◌∷◌, ◌++◌, Bool, true, false, ◌||◌, refl, ap, ◌∙◌, arith}
use Rattle.std.specs.Prelude.{slice_index_or}
use Rattle.std.proofs.lemmas.List.Folds.{list_any-append}
use Rattle.std.specs.List.{list_any}
use Rattle.sq_rules.specs.Changes.{is_group}
use Rattle.sq_rules.specs.Configurations.{deepest, greatest_of, is_slow, nesting_of, some_slow}
use Rattle.sq_rules.specs.Drafts.{in_last, with_leaf, with_line, with_member}
use Rattle.sq_rules.specs.declared.configs.Body.{Body}
use Rattle.sq_rules.specs.declared.configs.Body.TheVariants as body
use Rattle.sq_rules.specs.declared.configs.Term.{Term}
use Rattle.sq_rules.specs.declared.leaves.Leaf.{Leaf}

-- one thing more at the end
greatest_push : {A : Type 0} (f : A → ℕ) (xs : List A) (x : A)
    → greatest_of f (xs ++ x ∷ []) ≡ max (greatest_of f xs) (f x)
greatest_push f [] x = omega arith
greatest_push f (y ∷ xs) x = omega (arith, greatest_push f xs x)

deepest_more : (before : List ℕ) (terms : List Term) (t : Term)
    → deepest before (terms ++ t ∷ []) ≡ max (deepest before terms) (slice_index_or before t.acl 0)
deepest_more before terms t = greatest_push (λ u. slice_index_or before u.acl 0) terms t

deepest_in_last : (before : List ℕ) (lines : List (List Term)) (t : Term)
    → greatest_of (deepest before) (in_last t lines)
    ≡ max (greatest_of (deepest before) lines) (slice_index_or before t.acl 0)
deepest_in_last before [] t = omega arith
deepest_in_last before (l ∷ []) t = omega (arith, deepest_more before l t)
deepest_in_last before (l ∷ m ∷ lines) t = omega (arith, deepest_in_last before (m ∷ lines) t)

one_up : (m a b : ℕ) → m ≡ max a b → suc m ≡ max (suc a) (suc b)
one_up m a b e = omega arith

-- how deep a group nests with one member more
pub member_depth : (before : List ℕ) (t : Term) (b : Body) → is_group b ≡ true
    → nesting_of before (with_member t b) ≡ max (nesting_of before b) (suc (slice_index_or before t.acl 0))
member_depth before t (body.Leaf l) group = cc
member_depth before t (body.External class arguments) group = cc
member_depth before t (body.AnyOf terms) group = one_up (deepest before (terms ++ t ∷ [])) (deepest before terms)
    (slice_index_or before t.acl 0) (deepest_more before terms t)
member_depth before t (body.AllOf lines) group = one_up (greatest_of (deepest before) (in_last t lines))
    (greatest_of (deepest before) lines) (slice_index_or before t.acl 0) (deepest_in_last before lines t)

no_or : (a b : Bool) → (a || (b || false)) ≡ (a || b)
no_or a b = grind arith

slow_more : (before : List Bool) (terms : List Term) (t : Term)
    → some_slow before (terms ++ t ∷ []) ≡ (some_slow before terms || slice_index_or before t.acl false)
slow_more before terms t = list_any-append (λ u. slice_index_or before u.acl false) terms (t ∷ [])
    ∙ no_or (some_slow before terms) (slice_index_or before t.acl false)

last_or : (a b c : Bool) → c ≡ (a || b) → (c || false) ≡ ((a || false) || b)
last_or a b c e = grind (arith, e)

first_or : (b : Bool) → ((b || false) || false) ≡ (false || b)
first_or b = grind arith

behind_or : (a b c d : Bool) → d ≡ (c || b) → (a || d) ≡ ((a || c) || b)
behind_or a b c d e = grind (arith, e)

slow_in_last : (before : List Bool) (lines : List (List Term)) (t : Term)
    → list_any (some_slow before) (in_last t lines)
    ≡ (list_any (some_slow before) lines || slice_index_or before t.acl false)
slow_in_last before [] t = first_or (slice_index_or before t.acl false)
slow_in_last before (l ∷ []) t = last_or (some_slow before l) (slice_index_or before t.acl false)
    (some_slow before (l ++ t ∷ [])) (slow_more before l t)
slow_in_last before (l ∷ m ∷ lines) t =
    behind_or (some_slow before l) (slice_index_or before t.acl false) (list_any (some_slow before) (m ∷ lines))
    (list_any (some_slow before) (in_last t (m ∷ lines))) (slow_in_last before (m ∷ lines) t)

-- whether a group reaches a helper with one member more
pub member_slow : (before : List Bool) (t : Term) (b : Body) → is_group b ≡ true
    → is_slow before (with_member t b) ≡ (is_slow before b || slice_index_or before t.acl false)
member_slow before t (body.Leaf l) group = cc
member_slow before t (body.External class arguments) group = cc
member_slow before t (body.AnyOf terms) group = slow_more before terms t
member_slow before t (body.AllOf lines) group = slow_in_last before lines t

-- what is no group takes no member
pub member_none : (t : Term) (b : Body) → is_group b ≡ false → with_member t b ≡ b
member_none t (body.Leaf l) none = refl
member_none t (body.External class arguments) none = refl
member_none t (body.AnyOf terms) none = cc
member_none t (body.AllOf lines) none = cc

no_more : (a b : ℕ) → a ≡ max b 0 → a ≡ b
no_more a b e = omega arith

deepest_opened : (before : List ℕ) (lines : List (List Term))
    → greatest_of (deepest before) (lines ++ [] ∷ []) ≡ greatest_of (deepest before) lines
deepest_opened before lines = no_more (greatest_of (deepest before) (lines ++ [] ∷ []))
    (greatest_of (deepest before) lines) (greatest_push (deepest before) lines [])

-- one line more of a group does not change how deep it nests
pub line_depth : (before : List ℕ) (b : Body) → nesting_of before (with_line b) ≡ nesting_of before b
line_depth before (body.Leaf l) = refl
line_depth before (body.External class arguments) = refl
line_depth before (body.AnyOf terms) = refl
line_depth before (body.AllOf lines) = ap suc (deepest_opened before lines)

or_no : (a : Bool) → (a || (false || false)) ≡ a
or_no a = grind arith

-- one line more of a group does not change whether it reaches a helper
pub line_slow : (before : List Bool) (b : Body) → is_slow before (with_line b) ≡ is_slow before b
line_slow before (body.Leaf l) = refl
line_slow before (body.External class arguments) = refl
line_slow before (body.AnyOf terms) = refl
line_slow before (body.AllOf lines) = list_any-append (some_slow before) lines ([] ∷ [])
    ∙ or_no (list_any (some_slow before) lines)

-- more values of a leaf do not change how deep it nests
pub leaf_depth : (before : List ℕ) (more : Leaf) (b : Body) → nesting_of before (with_leaf more b) ≡ nesting_of before b
leaf_depth before more (body.Leaf l) = refl
leaf_depth before more (body.External class arguments) = refl
leaf_depth before more (body.AnyOf terms) = refl
leaf_depth before more (body.AllOf lines) = refl

-- more values of a leaf do not change whether it reaches a helper
pub leaf_slow : (before : List Bool) (more : Leaf) (b : Body) → is_slow before (with_leaf more b) ≡ is_slow before b
leaf_slow before more (body.Leaf l) = refl
leaf_slow before more (body.External class arguments) = refl
leaf_slow before more (body.AnyOf terms) = refl
leaf_slow before more (body.AllOf lines) = refl
