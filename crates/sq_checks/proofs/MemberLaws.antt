-- What is seen of a group is what is seen of its lines, whose terms are seen as those of rules.
use Rattle.std.proofs.Common.{◌≡◌, ℕ, ◌<◌, zero, suc, List, [], ◌∷◌, ◌++◌, map, slice_get, Bool, true, false, ◌&&◌, if◌then◌else◌, nat_lt, Option, Some, None, refl, sym, ap, ◌∙◌, append-nil, arith}
use Rattle.std.proofs.lemmas.Bool.Decides.{nat_tests}
use Rattle.std.specs.List.{list_all}
use Rattle.sq_rules.proofs.ValueLaws.{known_here}
use Rattle.sq_rules.specs.Configurations.{are_known, are_known_bodies, is_known_body}
use Rattle.sq_rules.specs.Values.{acl_value, body_value, both, either, member_value, turned}
use Rattle.sq_rules.specs.Walks.{Seen, acl_walk, body_walk, is_hit, is_miss, line_seen, member_walk, term_seen, walk_while}
use Rattle.sq_rules.specs.declared.configs.Acl.{Acl}
use Rattle.sq_rules.specs.declared.configs.Body.{Body}
use Rattle.sq_rules.specs.declared.configs.Body.TheVariants as body
use Rattle.sq_rules.specs.declared.configs.Term.{Term}
use Rattle.sq_rules.specs.declared.values.TermValue.{TermValue}
use Rattle.sq_rules.specs.declared.values.TermValue.TheVariants.{Hit, Miss, Fault, Need}
use Rattle.sq_checks.proofs.CourseLaws.{either_is, lines_first}
use Rattle.sq_checks.specs.Courses.{lines_seen, then_seen}
use Rattle.sq_checks.specs.Groups.{body_of, lines_at, lines_of, lines_of_body}
use Rattle.sq_checks.specs.Kinds.{group_body, group_of, is_group_at}

left : (a b : Bool) → (a && b) ≡ true → a ≡ true
left true b e = refl
left false b e = cc

right : (a b : Bool) → (a && b) ≡ true → b ≡ true
right true b e = e
right false b e = cc

below : (a b : ℕ) → nat_lt a b ≡ true → a < b
below a b e = grind (arith, nat_tests, e)

-- what is seen of each term below a place agrees
abbrev Agree : ℕ → (Term → Seen) → (Term → Seen) → Type 0
Agree p f g = (u : Term) → u.acl < p → f u ≡ g u

terms_same : {X : Type 0} (h : Seen → X) (p : ℕ) (f g : Term → Seen) (terms : List Term) → are_known p terms ≡ true
    → Agree p f g → map (λ t. h (f t)) terms ≡ map (λ t. h (g t)) terms
terms_same h p f g [] known same = refl
terms_same h p f g (t ∷ terms) known same =
    ap (λ x. h x ∷ map (λ u. h (f u)) terms) (same t (below t.acl p (left (nat_lt t.acl p) (are_known p terms) known)))
    ∙ ap (λ xs. h (g t) ∷ xs) (terms_same h p f g terms (right (nat_lt t.acl p) (are_known p terms) known) same)

line_same : (p : ℕ) (f g : Term → Seen) (l : List Term) → are_known p l ≡ true → Agree p f g
    → line_seen f l ≡ line_seen g l
line_same p f g l known same =
    ap (λ (vs : List TermValue). record { value = both vs; walk = (line_seen f l).walk })
    (terms_same (λ x. x.value) p f g l known same)
    ∙ ap (λ (xs : List Seen). record { value = (line_seen g l).value; walk = walk_while is_hit xs })
    (terms_same (λ x. x) p f g l known same)

lines_same : {X : Type 0} (h : Seen → X) (p : ℕ) (f g : Term → Seen) (lines : List (List Term))
    → list_all (are_known p) lines ≡ true → Agree p f g
    → map (λ l. h (line_seen f l)) lines ≡ map (λ l. h (line_seen g l)) lines
lines_same h p f g [] known same = refl
lines_same h p f g (l ∷ lines) known same =
    ap (λ x. h x ∷ map (λ k. h (line_seen f k)) lines)
    (line_same p f g l (left (are_known p l) (list_all (are_known p) lines) known) same)
    ∙ ap (λ xs. h (line_seen g l) ∷ xs)
    (lines_same h p f g lines (right (are_known p l) (list_all (are_known p) lines) known) same)

-- what is seen of an acl over its members
abbrev body_seen : (ℕ → TermValue) → (Term → Seen) → ℕ → Body → Seen
body_seen taken f p b = record { value = body_value taken (λ t. (f t).value) p b; walk = body_walk f p b }

abbrev acl_seen : (ℕ → TermValue) → (Term → Seen) → ℕ → Option Acl → Seen
acl_seen taken f p o = record { value = acl_value taken (λ t. (f t).value) p o; walk = acl_walk f p o }

-- a value that is turned or not, with its walk
abbrev turned_seen : Bool → Seen → Seen
turned_seen b x = record { value = turned b x.value; walk = x.walk }

abbrev member_seen : (ℕ → TermValue) → List Acl → ℕ → Term → Seen
member_seen taken acls before t = record {
  value = member_value taken acls before t;
  walk = member_walk taken acls before t;
}

body_same : (taken : ℕ → TermValue) (classes p : ℕ) (f g : Term → Seen) (b : Body) → is_known_body classes p b ≡ true
    → Agree p f g → body_seen taken f p b ≡ body_seen taken g p b
body_same taken classes p f g (body.Leaf l) known same = refl
body_same taken classes p f g (body.External class arguments) known same = refl
body_same taken classes p f g (body.AnyOf terms) known same =
    ap (λ (vs : List TermValue). record { value = either vs; walk = walk_while is_miss (map f terms) })
    (terms_same (λ x. x.value) p f g terms known same)
    ∙ ap (λ (xs : List Seen). record { value = either (map (λ t. (g t).value) terms); walk = walk_while is_miss xs })
    (terms_same (λ x. x) p f g terms known same)
body_same taken classes p f g (body.AllOf lines) known same =
    ap (λ (vs : List TermValue). record { value = either vs; walk = walk_while is_miss (map (line_seen f) lines) })
    (lines_same (λ x. x.value) p f g lines known same)
    ∙ ap (λ (xs : List Seen).
    record { value = either (map (λ l. both (map (λ t. (g t).value) l)) lines); walk = walk_while is_miss xs })
    (lines_same (λ x. x) p f g lines known same)

acl_same : (taken : ℕ → TermValue) (classes : ℕ) (acls : List Acl) (p : ℕ) (f g : Term → Seen) (o : Option Acl)
    → are_known_bodies classes 0 acls ≡ true
    → slice_get acls p ≡ o → Agree p f g → acl_seen taken f p o ≡ acl_seen taken g p o
acl_same taken classes acls p f g None known is same = refl
acl_same taken classes acls p f g (Some a) known is same = body_same taken classes p f g a.body
    (known_here classes acls p a known is) same

-- a member is seen alike however many acls may stand before its group
members_agree : (taken : ℕ → TermValue) (classes : ℕ) (acls : List Acl) → are_known_bodies classes 0 acls ≡ true
    → (n m : ℕ) (t : Term) → t.acl < n → t.acl < m
    → member_seen taken acls n t ≡ member_seen taken acls m t
members_agree taken classes acls known zero m t small less = absurd (omega arith)
members_agree taken classes acls known (suc n) zero t small less = absurd (omega arith)
members_agree taken classes acls known (suc n) (suc m) t small less =
    ap (turned_seen t.negated)
    (acl_same taken classes acls t.acl (member_seen taken acls n) (member_seen taken acls m) (slice_get acls t.acl)
    known refl
    (λ u under. members_agree taken classes acls known n m u (omega arith) (omega arith)))

-- what is seen of a term, over the members of its acl
term_over_members : (taken : ℕ → TermValue) (classes : ℕ) (acls : List Acl) (t : Term)
    → are_known_bodies classes 0 acls ≡ true
    → term_seen taken acls t
    ≡ turned_seen t.negated (acl_seen taken (term_seen taken acls) t.acl (slice_get acls t.acl))
term_over_members taken classes acls t known =
    ap (turned_seen t.negated)
    (acl_same taken classes acls t.acl (member_seen taken acls t.acl) (term_seen taken acls) (slice_get acls t.acl)
    known refl
    (λ u under. members_agree taken classes acls known t.acl (suc u.acl) u under (omega arith)))

one_both : (v : TermValue) → both (v ∷ []) ≡ v
one_both Hit = refl
one_both Miss = refl
one_both (Fault acl cause) = refl
one_both (Need acl key) = refl

no_walk : (b : Bool) (walk : List ℕ) → walk ++ (if b then [] else []) ≡ walk
no_walk true walk = append-nil walk
no_walk false walk = append-nil walk

-- a line of one term is seen as the term
one_line : (f : Term → Seen) (t : Term) → line_seen f (t ∷ []) ≡ f t
one_line f t =
    ap (λ (v : TermValue). record { value = v; walk = (line_seen f (t ∷ [])).walk }) (one_both (f t).value)
    ∙ ap (λ (w : List ℕ). record { value = (f t).value; walk = w }) (no_walk (is_hit (f t).value) (f t).walk)

-- members of any-of are seen as lines of one term
members_as_lines : (f : Term → Seen) (terms : List Term)
    → lines_seen f (map (λ t. t ∷ []) terms)
    ≡ record { value = either (map (λ t. (f t).value) terms); walk = walk_while is_miss (map f terms) }
members_as_lines f [] = refl
members_as_lines f (t ∷ terms) =
    lines_first f (t ∷ []) (map (λ u. u ∷ []) terms)
    ∙ ap (λ x. then_seen is_miss x (lines_seen f (map (λ u. u ∷ []) terms))) (one_line f t)
    ∙ ap (then_seen is_miss (f t)) (members_as_lines f terms)
    ∙ sym (ap (λ (v : TermValue). record { value = v; walk = walk_while is_miss (map f (t ∷ terms)) })
    (either_is (f t).value (map (λ u. (f u).value) terms)))

-- a group is seen as its lines
group_seen : (taken : ℕ → TermValue) (f : Term → Seen) (p : ℕ) (b : Body) → group_body b ≡ true
    → body_seen taken f p b ≡ lines_seen f (lines_of_body b)
group_seen taken f p (body.Leaf l) e = absurd (cc)
group_seen taken f p (body.External class arguments) e = absurd (cc)
group_seen taken f p (body.AnyOf terms) e = sym (members_as_lines f terms)
group_seen taken f p (body.AllOf lines) e = refl

acl_some : (o : Option Acl) → group_of o ≡ true → (a : Acl) × (o ≡ Some a) × (group_body a.body ≡ true)
acl_some None e = absurd (cc)
acl_some (Some a) e = (a, refl, e)

-- what is seen of a term whose acl is a group
pub term_of_group : (taken : ℕ → TermValue) (classes : ℕ) (acls : List Acl) (t : Term)
    → are_known_bodies classes 0 acls ≡ true → is_group_at acls t.acl ≡ true
    → term_seen taken acls t ≡ turned_seen t.negated (lines_seen (term_seen taken acls) (lines_at acls t.acl))
term_of_group taken classes acls t known group =
    let a = acl_some (slice_get acls t.acl) group in
    let f = term_seen taken acls in
    term_over_members taken classes acls t known
    ∙ ap (λ o. turned_seen t.negated (acl_seen taken f t.acl o)) a.1
    ∙ ap (turned_seen t.negated) (group_seen taken f t.acl a.0.body a.2)
    ∙ ap (λ o. turned_seen t.negated (lines_seen f (lines_of o))) (sym a.1)

plain_seen : (taken : ℕ → TermValue) (f : Term → Seen) (p : ℕ) (b : Body) → group_body b ≡ false
    → body_seen taken f p b ≡ record { value = taken p; walk = p ∷ [] }
plain_seen taken f p (body.Leaf l) e = refl
plain_seen taken f p (body.External class arguments) e = refl
plain_seen taken f p (body.AnyOf terms) e = absurd (cc)
plain_seen taken f p (body.AllOf lines) e = absurd (cc)

plain_acl : (taken : ℕ → TermValue) (f : Term → Seen) (p : ℕ) (o : Option Acl) (b : Body) → body_of o ≡ Some b
    → group_body b ≡ false → acl_seen taken f p o ≡ record { value = taken p; walk = p ∷ [] }
plain_acl taken f p None b is plain = absurd (cc)
plain_acl taken f p (Some a) b is plain = let same : a.body ≡ b = cc in
    plain_seen taken f p a.body (ap group_body same ∙ plain)

-- what is seen of a term whose acl is no group
pub term_of_plain : (taken : ℕ → TermValue) (acls : List Acl) (t : Term) (b : Body)
    → body_of (slice_get acls t.acl) ≡ Some b → group_body b ≡ false
    → term_seen taken acls t ≡ record { value = turned t.negated (taken t.acl); walk = t.acl ∷ [] }
term_of_plain taken acls t b is plain = ap (turned_seen t.negated)
    (plain_acl taken (member_seen taken acls t.acl) t.acl (slice_get acls t.acl) b is plain)
