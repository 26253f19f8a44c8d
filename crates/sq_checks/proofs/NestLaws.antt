-- What is next is there, and there is room for it where it is a group.
use Rattle.std.proofs.Common.{◌≡◌, ℕ, ◌+◌, ◌<◌, ◌≤◌, zero, suc, List, [], ◌∷◌, map, take, length, slice_get, slice_index_or, Bool, true, false, ◌&&◌, nat_lt, Option, Some, None, refl, sym, ap, ◌∙◌, arith}
use Rattle.std.proofs.lemmas.Bool.Decides.{nat_tests}
use Rattle.std.proofs.lemmas.List.{get_or-take, length-map}
use Rattle.std.proofs.lemmas.Option.{get_or_from_slice_get}
use Rattle.std.specs.List.{list_all}
use Rattle.sq_rules.proofs.TableLaws.{nesting_at, nestings_length}
use Rattle.sq_rules.proofs.ValueLaws.{known_here}
use Rattle.sq_rules.specs.Configurations.{Configuration, IsConfiguration, are_known, are_known_bodies, deepest, greatest_of, is_known_body, is_known_rule, nesting_of, nestings}
use Rattle.sq_rules.specs.declared.configs.Acl.{Acl}
use Rattle.sq_rules.specs.declared.configs.Body.{Body}
use Rattle.sq_rules.specs.declared.configs.Body.TheVariants as body
use Rattle.sq_rules.specs.declared.configs.Rule.{Rule}
use Rattle.sq_rules.specs.declared.configs.Term.{Term}
use Rattle.sq_checks.proofs.CourseLaws.{in_line, within_some}
use Rattle.sq_checks.specs.Groups.{AreOpen, bound_on, line_on, lines_at, lines_of, lines_of_body, lines_on, next_at, term_on}
use Rattle.sq_checks.specs.Kinds.{group_body, group_of, is_group_at}
use Rattle.sq_checks.specs.OpenGroups.{depth_of}
use Rattle.sq_checks.specs.Positions.{IsNext}
use Rattle.sq_checks.specs.declared.looking.Next.TheVariants as next
use Rattle.sq_checks.specs.declared.positions.Position.{Position}
use Rattle.sq_checks.specs.declared.spots.GroupSpot.{GroupSpot}

left : (a b : Bool) → (a && b) ≡ true → a ≡ true
left true b e = refl
left false b e = cc

right : (a b : Bool) → (a && b) ≡ true → b ≡ true
right true b e = e
right false b e = cc

below : (a b : ℕ) → nat_lt a b ≡ true → a < b
below a b e = grind (arith, nat_tests, e)

-- what holds of all holds of one
all_here : {A : Type 0} (q : A → Bool) (xs : List A) (i : ℕ) (x : A) → list_all q xs ≡ true → slice_get xs i ≡ Some x
    → q x ≡ true
all_here q [] i x all is = absurd (cc)
all_here q (y ∷ xs) zero x all is = let same : y ≡ x = cc in ap q (sym same) ∙ left (q y) (list_all q xs) all
all_here q (y ∷ xs) (suc i) x all is = all_here q xs i x (right (q y) (list_all q xs) all) is

known_members : (p : ℕ) (terms : List Term) → are_known p terms ≡ true
    → list_all (are_known p) (map (λ t. t ∷ []) terms) ≡ true
known_members p [] known = refl
known_members p (t ∷ terms) known = rw (left (nat_lt t.acl p) (are_known p terms) known)
    (known_members p terms (right (nat_lt t.acl p) (are_known p terms) known))

known_lines : (classes p : ℕ) (b : Body) → is_known_body classes p b ≡ true
    → list_all (are_known p) (lines_of_body b) ≡ true
known_lines classes p (body.Leaf l) known = refl
known_lines classes p (body.External class arguments) known = refl
known_lines classes p (body.AnyOf terms) known = known_members p terms known
known_lines classes p (body.AllOf lines) known = known

known_term : (p : ℕ) (lines : List (List Term)) (line term : ℕ) (t : Term) → list_all (are_known p) lines ≡ true
    → next_at lines line term ≡ next.Term t → t.acl < p
known_term p lines line term t known e =
    let at = in_line (slice_get lines line) term t e in
    below t.acl p (all_here (λ u. nat_lt u.acl p) at.0 term t (all_here (are_known p) lines line at.0 known at.1) at.2)

-- a member stands before its group
member_before : (classes : ℕ) (acls : List Acl) (g line term : ℕ) (t : Term) → are_known_bodies classes 0 acls ≡ true
    → next_at (lines_at acls g) line term ≡ next.Term t → t.acl < g
member_before classes acls g line term t known e = at (slice_get acls g) refl e
  where
    at : (o : Option Acl) → slice_get acls g ≡ o → next_at (lines_of o) line term ≡ next.Term t → t.acl < g
    at None is f = known_term g [] line term t refl f
    at (Some a) is f = known_term g (lines_of_body a.body) line term t
        (known_lines classes g a.body (known_here classes acls g a known is)) f

rules_known : (n : ℕ) (rules : List Rule) → list_all (is_known_rule n) rules ≡ true
    → list_all (are_known n) (map (λ (r : Rule). r.terms) rules) ≡ true
rules_known n [] known = refl
rules_known n (r ∷ rules) known = rw (left (is_known_rule n r) (list_all (is_known_rule n) rules) known)
    (rules_known n rules (right (is_known_rule n r) (list_all (is_known_rule n) rules) known))

-- what is next stands before the group whose line it is in
pub next_before : (c : Configuration) (line term : ℕ) (groups : List GroupSpot) (t : Term) → IsConfiguration c
    → next_at (lines_on c groups) (line_on line groups) (term_on term groups) ≡ next.Term t
    → t.acl < bound_on c groups
next_before c line term [] t is e = known_term (length c.acls) (lines_on c []) line term t
    (rules_known (length c.acls) c.rules is.places) e
next_before c line term (s ∷ groups) t is e = member_before (length c.classes) c.acls s.acl s.line s.term t is.members e

-- open groups are acls that are there
pub bound_there : (c : Configuration) (room line term : ℕ) (groups : List GroupSpot) → AreOpen c room line term groups
    → bound_on c groups ≤ length c.acls
bound_there c room line term [] are = omega arith
bound_there c room line term (s ∷ groups) are =
    let rest : bound_on c groups ≤ length c.acls = bound_there c room line term groups are.1 in
    let one : s.acl < bound_on c groups = are.0.before in
    omega arith

-- a rule is looked at where a group is open
pub rule_there : (c : Configuration) (room line term : ℕ) (groups : List GroupSpot) → AreOpen c room line term groups
    → line_on line groups < length (lines_on c groups) → line < length c.rules
rule_there c room line term [] are within = omega (arith, within, length-map c.rules (λ (r : Rule). r.terms))
rule_there c room line term (s ∷ groups) are within = rule_there c room line term groups are.1 are.0.pointed

greatest_here : {A : Type 0} (f : A → ℕ) (xs : List A) (i : ℕ) (x : A) → slice_get xs i ≡ Some x
    → f x ≤ greatest_of f xs
greatest_here f [] i x is = absurd (cc)
greatest_here f (y ∷ xs) zero x is = let same : f y ≡ f x = let e : y ≡ x = cc in ap f e in omega (arith, same)
greatest_here f (y ∷ xs) (suc i) x is = let rest : f x ≤ greatest_of f xs = greatest_here f xs i x is in
    omega (arith, rest)

-- a member of any-of is the one term of its line
member_of_line : (terms : List Term) (i : ℕ) (l : List Term) (j : ℕ) (t : Term)
    → slice_get (map (λ u. u ∷ []) terms) i ≡ Some l → slice_get l j ≡ Some t → slice_get terms i ≡ Some t
member_of_line [] i l j t is here = absurd (cc)
member_of_line (u ∷ terms) zero l j t is here = let same : u ∷ [] ≡ l = cc in
    only j (ap (λ (k : List Term). slice_get k j) same ∙ here)
  where
    only : (k : ℕ) → slice_get (u ∷ []) k ≡ Some t → Some u ≡ Some t
    only zero f = f
    only (suc k) f = absurd (cc)
member_of_line (u ∷ terms) (suc i) l j t is here = member_of_line terms i l j t is here

-- a group nests deeper than its members
deeper : (before : List ℕ) (b : Body) (line term : ℕ) (t : Term) → next_at (lines_of_body b) line term ≡ next.Term t
    → slice_index_or before t.acl 0 < nesting_of before b
deeper before (body.Leaf l) line term t e = absurd (cc)
deeper before (body.External class arguments) line term t e = absurd (cc)
deeper before (body.AnyOf terms) line term t e =
    let at = in_line (slice_get (map (λ u. u ∷ []) terms) line) term t e in
    let one : slice_index_or before t.acl 0 ≤ deepest before terms =
    greatest_here (λ u. slice_index_or before u.acl 0) terms line t (member_of_line terms line at.0 term t at.1 at.2) in
    omega arith
deeper before (body.AllOf lines) line term t e =
    let at = in_line (slice_get lines line) term t e in
    let one : slice_index_or before t.acl 0 ≤ deepest before at.0 =
    greatest_here (λ u. slice_index_or before u.acl 0) at.0 term t at.2 in
    let two : deepest before at.0 ≤ greatest_of (deepest before) lines =
    greatest_here (deepest before) lines line at.0 at.1 in
    omega arith

member_nests : (classes : ℕ) (acls : List Acl) (g line term : ℕ) (t : Term) → are_known_bodies classes 0 acls ≡ true
    → next_at (lines_at acls g) line term ≡ next.Term t
    → slice_index_or (nestings acls) t.acl 0 < slice_index_or (nestings acls) g 0
member_nests classes acls g line term t known e = at (slice_get acls g) refl e
  where
    at : (o : Option Acl) → slice_get acls g ≡ o → next_at (lines_of o) line term ≡ next.Term t
        → slice_index_or (nestings acls) t.acl 0 < slice_index_or (nestings acls) g 0
    at None is f = absurd (cc)
    at (Some a) is f =
        let one : slice_index_or (nestings acls) g 0 ≡ nesting_of (take g (nestings acls)) a.body =
        nesting_at acls g a is in
        let two : slice_index_or (take g (nestings acls)) t.acl 0 < nesting_of (take g (nestings acls)) a.body =
        deeper (take g (nestings acls)) a.body line term t f in
        let three : slice_index_or (take g (nestings acls)) t.acl 0 ≡ slice_index_or (nestings acls) t.acl 0 =
        get_or-take g (nestings acls) t.acl 0 (member_before classes acls g line term t known e) in
        omega (arith, one, two, three)

fits_in : (c : Configuration) (room line term : ℕ) (groups : List GroupSpot) (t : Term) → IsConfiguration c
    → AreOpen c room line term groups
    → slice_index_or (nestings c.acls) t.acl 0 ≤ room
    → next_at (lines_on c groups) (line_on line groups) (term_on term groups) ≡ next.Term t
    → slice_index_or (nestings c.acls) t.acl 0 + length groups ≤ room
fits_in c room line term [] t is are enough e = omega (arith, enough)
fits_in c room line term (s ∷ groups) t is are enough e =
    let one : slice_index_or (nestings c.acls) t.acl 0 < slice_index_or (nestings c.acls) s.acl 0 =
    member_nests (length c.classes) c.acls s.acl s.line s.term t is.members e in
    let two : slice_index_or (nestings c.acls) s.acl 0 + length groups ≤ room = are.0.fits in
    omega (arith, one, two)

-- there is room for the group that is next
pub fits_within : (c : Configuration) (p : Position) (t : Term) → IsNext c p t
    → slice_index_or (nestings c.acls) t.acl 0 + length p.groups.list ≤ p.groups.room
fits_within c p t is = fits_in c p.groups.room p.line p.term p.groups.list t is.config is.position.groups
    (is.position.room t.acl is.there) is.next_is

group_deep : (before : List ℕ) (b : Body) → group_body b ≡ true → 1 ≤ nesting_of before b
group_deep before (body.Leaf l) e = absurd (cc)
group_deep before (body.External class arguments) e = absurd (cc)
group_deep before (body.AnyOf terms) e = omega arith
group_deep before (body.AllOf lines) e = omega arith

-- a group nests
pub group_nests : (acls : List Acl) (g : ℕ) → is_group_at acls g ≡ true → 1 ≤ slice_index_or (nestings acls) g 0
group_nests acls g group = at (slice_get acls g) refl group
  where
    at : (o : Option Acl) → slice_get acls g ≡ o → group_of o ≡ true → 1 ≤ slice_index_or (nestings acls) g 0
    at None is e = absurd (cc)
    at (Some a) is e =
        let one : slice_index_or (nestings acls) g 0 ≡ nesting_of (take g (nestings acls)) a.body =
        nesting_at acls g a is in
        let two : 1 ≤ nesting_of (take g (nestings acls)) a.body = group_deep (take g (nestings acls)) a.body e in
        omega (arith, one, two)

-- no acl nests deeper than the deepest
pub room_enough : (acls : List Acl) (acl : ℕ) → acl < length acls
    → slice_index_or (nestings acls) acl 0 ≤ depth_of acls
room_enough acls acl within =
    let here : acl < length (nestings acls) = omega (arith, within, nestings_length acls) in
    let at = within_some (nestings acls) acl here in
    let least : at.0 ≤ depth_of acls = greatest_here (λ n. n) (nestings acls) acl at.0 at.1 in
    let same : slice_index_or (nestings acls) acl 0 ≡ at.0 =
    get_or_from_slice_get (nestings acls) acl at.0 0 at.1 in
    omega (arith, least, same)
