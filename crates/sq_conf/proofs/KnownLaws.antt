-- Members, rules and patterns that stay, where acls change or one more stands.
use Rattle.std.proofs.Common.{◌≡◌, ℕ, ◌+◌, ◌≤◌, suc, zero, List, [], ◌∷◌, ◌++◌, length, set, Bool, true, false, ◌||◌, not, refl, sym, ap, ◌∙◌, arith, Some, slice_get, nat_lt}
use Rattle.std.proofs.lemmas.Bool.{and_from}
use Rattle.std.proofs.lemmas.Bool.Decides.{nat_tests}
use Rattle.std.proofs.lemmas.List.{get_or_append_left, length_push}
use Rattle.std.proofs.lemmas.List.Folds.{list_all-append}
use Rattle.std.specs.List.{list_all}
use Rattle.std.specs.Prelude.{slice_index_or}
use Rattle.sq_conf.proofs.ListLaws.{all_from, first_true, second_true}
use Rattle.sq_rules.proofs.AclLaws.{slow_push}
use Rattle.sq_rules.proofs.ListLaws.{all_push}
use Rattle.sq_rules.specs.Changes.{has_patterns}
use Rattle.sq_rules.specs.Configurations.{are_known, are_known_bodies, is_fast_rule, is_known_body, is_known_rule, is_slow, slow_ones, some_slow}
use Rattle.sq_rules.specs.Drafts.{are_patterns, in_last, joined_leaves, with_leaf, with_line, with_member}
use Rattle.sq_rules.specs.Patterns.{is_pattern}
use Rattle.sq_rules.specs.declared.configs.Acl.{Acl}
use Rattle.sq_rules.specs.declared.configs.Body.{Body}
use Rattle.sq_rules.specs.declared.configs.Body.TheVariants as body
use Rattle.sq_rules.specs.declared.configs.Rule.{Rule}
use Rattle.sq_rules.specs.declared.configs.Term.{Term}
use Rattle.sq_rules.specs.declared.leaves.Find.{Find}
use Rattle.sq_rules.specs.declared.leaves.Leaf.{Leaf}
use Rattle.sq_rules.specs.declared.leaves.Leaf.TheVariants as leaf

-- members are known, where one acl changes
pub known_set : (classes n k : ℕ) (acls : List Acl) (p : ℕ) (x y : Acl) → are_known_bodies classes n acls ≡ true
    → slice_get acls p ≡ Some x → n + p ≡ k →
    (is_known_body classes k x.body ≡ true → is_known_body classes k y.body ≡ true)
    → are_known_bodies classes n (set acls p y) ≡ true
known_set classes n k [] p x y known is here step = refl
known_set classes n k (a ∷ acls) zero x y known is here step =
    let at : n ≡ k = omega arith in
    let same : x ≡ a = cc in
    let one : is_known_body classes k x.body ≡ true =
    rw (← at, same) (first_true (is_known_body classes n a.body) (are_known_bodies classes (suc n) acls) known) in
    and_from (is_known_body classes n y.body) (are_known_bodies classes (suc n) acls) (rw at (step one))
    (second_true (is_known_body classes n a.body) (are_known_bodies classes (suc n) acls) known)
known_set classes n k (a ∷ acls) (suc p) x y known is here step =
    and_from (is_known_body classes n a.body) (are_known_bodies classes (suc n) (set acls p y))
    (first_true (is_known_body classes n a.body) (are_known_bodies classes (suc n) acls) known)
    (known_set classes (suc n) k acls p x y
    (second_true (is_known_body classes n a.body) (are_known_bodies classes (suc n) acls) known) is (omega arith) step)

less_more : (i m n : ℕ) → m ≤ n → nat_lt i m ≡ true → nat_lt i n ≡ true
less_more i m n more less = grind (arith, nat_tests, less)

body_wider : (m n k : ℕ) (b : Body) → m ≤ n → is_known_body m k b ≡ true → is_known_body n k b ≡ true
body_wider m n k (body.Leaf l) more known = refl
body_wider m n k (body.External class arguments) more known = less_more class m n more known
body_wider m n k (body.AnyOf terms) more known = known
body_wider m n k (body.AllOf lines) more known = known

-- over more classes
pub known_wider : (m n k : ℕ) (acls : List Acl) → m ≤ n → are_known_bodies m k acls ≡ true
    → are_known_bodies n k acls ≡ true
known_wider m n k [] more known = refl
known_wider m n k (a ∷ acls) more known =
    and_from (is_known_body n k a.body) (are_known_bodies n (suc k) acls)
    (body_wider m n k a.body more (first_true (is_known_body m k a.body) (are_known_bodies m (suc k) acls) known))
    (known_wider m n (suc k) acls more (second_true (is_known_body m k a.body) (are_known_bodies m (suc k) acls) known))

pub leaf_known : (classes k : ℕ) (more : Leaf) (b : Body) → is_known_body classes k b ≡ true
    → is_known_body classes k (with_leaf more b) ≡ true
leaf_known classes k more (body.Leaf l) known = refl
leaf_known classes k more (body.External class arguments) known = known
leaf_known classes k more (body.AnyOf terms) known = known
leaf_known classes k more (body.AllOf lines) known = known

pub line_known : (classes k : ℕ) (b : Body) → is_known_body classes k b ≡ true
    → is_known_body classes k (with_line b) ≡ true
line_known classes k (body.Leaf l) known = refl
line_known classes k (body.External class arguments) known = known
line_known classes k (body.AnyOf terms) known = known
line_known classes k (body.AllOf lines) known = all_push (are_known k) lines [] known refl

last_known : (k : ℕ) (t : Term) (lines : List (List Term)) → nat_lt t.acl k ≡ true → list_all (are_known k) lines ≡ true
    → list_all (are_known k) (in_last t lines) ≡ true
last_known k t [] one known = and_from (are_known k (t ∷ [])) true (and_from (nat_lt t.acl k) true one refl) refl
last_known k t (l ∷ []) one known =
    and_from (are_known k (l ++ t ∷ [])) true
    (all_push (λ u. nat_lt u.acl k) l t (first_true (are_known k l) true known) one) refl
last_known k t (l ∷ m ∷ lines) one known =
    and_from (are_known k l) (list_all (are_known k) (in_last t (m ∷ lines)))
    (first_true (are_known k l) (list_all (are_known k) (m ∷ lines)) known)
    (last_known k t (m ∷ lines) one (second_true (are_known k l) (list_all (are_known k) (m ∷ lines)) known))

pub member_known : (classes k : ℕ) (t : Term) (b : Body) → nat_lt t.acl k ≡ true → is_known_body classes k b ≡ true
    → is_known_body classes k (with_member t b) ≡ true
member_known classes k t (body.Leaf l) one known = refl
member_known classes k t (body.External class arguments) one known = known
member_known classes k t (body.AnyOf terms) one known = all_push (λ u. nat_lt u.acl k) terms t known one
member_known classes k t (body.AllOf lines) one known = last_known k t lines one known

regexes_joined : (a : List Find) (m : Leaf) → list_all is_pattern a ≡ true → are_patterns m ≡ true
    → are_patterns (joined_leaves (leaf.UrlRegex a) m) ≡ true
regexes_joined a (leaf.UrlRegex b) p q = list_all-append is_pattern a b
    ∙ and_from (list_all is_pattern a) (list_all is_pattern b) p q
regexes_joined a (leaf.Src b) p q = p
regexes_joined a (leaf.Dst b) p q = p
regexes_joined a (leaf.DstDomain b) p q = p
regexes_joined a (leaf.Port b) p q = p
regexes_joined a (leaf.Method b) p q = p
regexes_joined a (leaf.Proto b) p q = p
regexes_joined a (leaf.Time b) p q = p
regexes_joined a (leaf.MaxConn b) p q = p

joined_patterns : (l m : Leaf) → are_patterns l ≡ true → are_patterns m ≡ true → are_patterns (joined_leaves l m) ≡ true
joined_patterns (leaf.Src a) m p q = grind arith
joined_patterns (leaf.Dst a) m p q = grind arith
joined_patterns (leaf.DstDomain a) m p q = grind arith
joined_patterns (leaf.Port a) m p q = grind arith
joined_patterns (leaf.Method a) m p q = grind arith
joined_patterns (leaf.Proto a) m p q = grind arith
joined_patterns (leaf.Time a) m p q = grind arith
joined_patterns (leaf.UrlRegex a) m p q = regexes_joined a m p q
joined_patterns (leaf.MaxConn a) m p q = grind arith

pub leaf_patterns : (more : Leaf) (b : Body) → are_patterns more ≡ true → has_patterns b ≡ true
    → has_patterns (with_leaf more b) ≡ true
leaf_patterns more (body.Leaf l) p q = joined_patterns l more q p
leaf_patterns more (body.External class arguments) p q = refl
leaf_patterns more (body.AnyOf terms) p q = refl
leaf_patterns more (body.AllOf lines) p q = refl

pub line_patterns : (b : Body) → has_patterns b ≡ true → has_patterns (with_line b) ≡ true
line_patterns (body.Leaf l) p = p
line_patterns (body.External class arguments) p = refl
line_patterns (body.AnyOf terms) p = refl
line_patterns (body.AllOf lines) p = refl

pub member_patterns : (t : Term) (b : Body) → has_patterns b ≡ true → has_patterns (with_member t b) ≡ true
member_patterns t (body.Leaf l) p = p
member_patterns t (body.External class arguments) p = refl
member_patterns t (body.AnyOf terms) p = refl
member_patterns t (body.AllOf lines) p = refl

-- a rule over more acls
pub rule_wider : (m n : ℕ) (r : Rule) → m ≤ n → is_known_rule m r ≡ true → is_known_rule n r ≡ true
rule_wider m n r more known = all_from (λ t. nat_lt t.acl m) (λ t. nat_lt t.acl n) r.terms
    (λ t. less_more t.acl m n more) known

same_or : (a b c d : Bool) → a ≡ b → c ≡ d → (a || c) ≡ (b || d)
same_or a b c d p q = cc

terms_longer : (slow : List Bool) (s : Bool) (k : ℕ) (terms : List Term) → k ≡ length slow → are_known k terms ≡ true
    → some_slow (slow ++ s ∷ []) terms ≡ some_slow slow terms
terms_longer slow s k [] long known = refl
terms_longer slow s k (t ∷ terms) long known =
    let within : nat_lt t.acl k ≡ true = first_true (nat_lt t.acl k) (are_known k terms) known in
    same_or (slice_index_or (slow ++ s ∷ []) t.acl false) (slice_index_or slow t.acl false)
    (some_slow (slow ++ s ∷ []) terms) (some_slow slow terms)
    (get_or_append_left slow (s ∷ []) false t.acl (grind (arith, nat_tests, within, long)))
    (terms_longer slow s k terms long (second_true (nat_lt t.acl k) (are_known k terms) known))

-- a rule that reaches no slow acl, where one acl more stands
pub fast_longer : (acls : List Acl) (a : Acl) (r : Rule) → length (slow_ones acls) ≡ length acls
    → is_fast_rule acls r ≡ true → is_fast_rule (acls ++ a ∷ []) r ≡ true
fast_longer acls a r long fast =
    let s = is_slow (slow_ones acls) a.body in
    let longer : slow_ones acls ++ s ∷ [] ≡ slow_ones (acls ++ a ∷ []) =
    slow_push (slow_ones acls) (slow_ones acls ++ s ∷ []) acls (acls ++ a ∷ []) a s refl refl refl refl in
    let known : is_known_rule (length acls) r ≡ true =
    first_true (is_known_rule (length acls) r) (not (some_slow (slow_ones acls) r.terms)) fast in
    let same : some_slow (slow_ones (acls ++ a ∷ [])) r.terms ≡ some_slow (slow_ones acls) r.terms =
    ap (λ l. some_slow l r.terms) (sym longer)
    ∙ terms_longer (slow_ones acls) s (length acls) r.terms (sym long) known in
    and_from (is_known_rule (length (acls ++ a ∷ [])) r) (not (some_slow (slow_ones (acls ++ a ∷ [])) r.terms))
    (rule_wider (length acls) (length (acls ++ a ∷ [])) r (omega (arith, length_push acls a)) known)
    (ap not same ∙ second_true (is_known_rule (length acls) r) (not (some_slow (slow_ones acls) r.terms)) fast)
