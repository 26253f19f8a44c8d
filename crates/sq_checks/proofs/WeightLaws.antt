-- The weight of a place falls with each step.
use Rattle.std.proofs.Common.{◌≡◌, ℕ, ◌+◌, ◌<◌, ◌≤◌, zero, suc, List, [], ◌∷◌, drop, length, slice_get, Bool, true, false, refl, ap, arith}
use Rattle.std.proofs.lemmas.Option.{slice_get_within}
use Rattle.sq_rules.specs.Configurations.{Configuration}
use Rattle.sq_rules.specs.declared.configs.Acl.{Acl}
use Rattle.sq_rules.specs.declared.configs.Term.{Term}
use Rattle.sq_checks.proofs.CourseLaws.{drop_some, in_line, within_some}
use Rattle.sq_checks.specs.Groups.{bound_on, groups_moved, line_moved, line_on, lines_at, lines_on, next_at, term_moved, term_on}
use Rattle.sq_checks.specs.declared.looking.Next.TheVariants as next
use Rattle.sq_checks.specs.Weights.{ahead_weight, behind_weight, line_weight, lines_weight, rest_weight, weigh}
use Rattle.sq_checks.specs.declared.spots.GroupSpot.{GroupSpot}

line_least : (w : Term → ℕ) (l : List Term) → 1 ≤ line_weight w l
line_least w [] = omega arith
line_least w (t ∷ l) = let rest : 1 ≤ line_weight w l = line_least w l in omega arith

weigh_least : (acls : List Acl) (n : ℕ) (t : Term) → 1 ≤ weigh acls n t
weigh_least acls zero t = omega arith
weigh_least acls (suc n) t = omega arith

line_rises : (v w : Term → ℕ) → ((t : Term) → v t ≤ w t) → (l : List Term) → line_weight v l ≤ line_weight w l
line_rises v w less [] = omega arith
line_rises v w less (t ∷ l) =
    let one : v t ≤ w t = less t in
    let rest : line_weight v l ≤ line_weight w l = line_rises v w less l in
    omega arith

lines_rise : (v w : Term → ℕ) → ((t : Term) → v t ≤ w t) → (lines : List (List Term))
    → lines_weight v lines ≤ lines_weight w lines
lines_rise v w less [] = omega arith
lines_rise v w less (l ∷ lines) =
    let one : line_weight v l ≤ line_weight w l = line_rises v w less l in
    let rest : lines_weight v lines ≤ lines_weight w lines = lines_rise v w less lines in
    omega arith

-- a term weighs no less where more acls may stand before
weigh_rises : (acls : List Acl) (n m : ℕ) → n ≤ m → (t : Term) → weigh acls n t ≤ weigh acls m t
weigh_rises acls zero m less t = weigh_least acls m t
weigh_rises acls (suc n) zero less t = absurd (omega arith)
weigh_rises acls (suc n) (suc m) less t =
    let rest : lines_weight (weigh acls n) (lines_at acls t.acl) ≤ lines_weight (weigh acls m) (lines_at acls t.acl) =
    lines_rise (weigh acls n) (weigh acls m) (weigh_rises acls n m (omega arith)) (lines_at acls t.acl) in
    omega arith

-- a term weighs more than the lines of its group
weigh_over : (acls : List Acl) (n : ℕ) (t : Term) → t.acl < n
    → 2 + lines_weight (weigh acls t.acl) (lines_at acls t.acl) ≤ weigh acls n t
weigh_over acls zero t less = absurd (omega arith)
weigh_over acls (suc n) t less =
    let rest : lines_weight (weigh acls t.acl) (lines_at acls t.acl)
    ≤ lines_weight (weigh acls n) (lines_at acls t.acl) =
    lines_rise (weigh acls t.acl) (weigh acls n) (weigh_rises acls t.acl n (omega arith)) (lines_at acls t.acl) in
    omega arith

rest_begun : (w : Term → ℕ) (lines : List (List Term)) → rest_weight w 0 lines ≡ lines_weight w lines
rest_begun w [] = refl
rest_begun w (l ∷ lines) = refl

-- a term that is next weighs besides what is behind it
rest_at_term : (w : Term → ℕ) (line term : ℕ) (lines : List (List Term)) (t : Term)
    → next_at lines line term ≡ next.Term t
    → rest_weight w term (drop line lines) ≡ w t + rest_weight w (term + 1) (drop line lines)
rest_at_term w line term lines t e =
    let at = in_line (slice_get lines line) term t e in
    let l = at.0 in
    let here : drop line lines ≡ l ∷ drop (line + 1) lines = drop_some lines line l at.1 in
    let there : drop term l ≡ t ∷ drop (term + 1) l = drop_some l term t at.2 in
    let one : rest_weight w term (drop line lines) ≡ line_weight w (drop term l)
    + lines_weight w (drop (line + 1) lines) = ap (rest_weight w term) here in
    let two : line_weight w (drop term l) ≡ w t + line_weight w (drop (term + 1) l) = ap (line_weight w) there in
    let three : rest_weight w (term + 1) (drop line lines) ≡ line_weight w (drop (term + 1) l)
    + lines_weight w (drop (line + 1) lines) = ap (rest_weight w (term + 1)) here in
    omega (arith, one, two, three)

pub ahead_at_term_weight : (c : Configuration) (line term : ℕ) (groups : List GroupSpot) (t : Term)
    → next_at (lines_on c groups) (line_on line groups) (term_on term groups) ≡ next.Term t
    → ahead_weight c line term groups ≡ weigh c.acls (bound_on c groups) t + behind_weight c line term groups
ahead_at_term_weight c line term [] t e = rest_at_term (weigh c.acls (length c.acls)) line term (lines_on c []) t e
ahead_at_term_weight c line term (s ∷ groups) t e =
    let one : rest_weight (weigh c.acls s.acl) s.term (drop s.line (lines_at c.acls s.acl)) ≡ weigh c.acls s.acl t
    + rest_weight (weigh c.acls s.acl) (s.term + 1) (drop s.line (lines_at c.acls s.acl)) =
    rest_at_term (weigh c.acls s.acl) s.line s.term (lines_at c.acls s.acl) t e in
    omega (arith, one)

-- the next line weighs no more than what is left of this one and the next
rest_falls : (w : Term → ℕ) (line term : ℕ) (lines : List (List Term)) → line < length lines
    → rest_weight w 0 (drop (line + 1) lines) ≤ rest_weight w term (drop line lines)
rest_falls w line term lines within =
    let at = within_some lines line within in
    let here : drop line lines ≡ at.0 ∷ drop (line + 1) lines = drop_some lines line at.0 at.1 in
    let one : rest_weight w term (drop line lines) ≡ line_weight w (drop term at.0)
    + lines_weight w (drop (line + 1) lines) = ap (rest_weight w term) here in
    let two : rest_weight w 0 (drop (line + 1) lines) ≡ lines_weight w (drop (line + 1) lines) =
    rest_begun w (drop (line + 1) lines) in
    omega (arith, one, two)

-- behind a term no more is left than was
pub moved_weight : (c : Configuration) (line term : ℕ) (groups : List GroupSpot) (hit : Bool)
    → line_on line groups < length (lines_on c groups)
    → ahead_weight c (line_moved hit line groups) (term_moved hit term groups) (groups_moved hit groups)
    ≤ behind_weight c line term groups
moved_weight c line term [] true within = omega arith
moved_weight c line term [] false within = rest_falls (weigh c.acls (length c.acls)) line (term + 1) (lines_on c [])
    within
moved_weight c line term (s ∷ groups) true within = omega arith
moved_weight c line term (s ∷ groups) false within =
    let one : rest_weight (weigh c.acls s.acl) 0 (drop (s.line + 1) (lines_at c.acls s.acl))
    ≤ rest_weight (weigh c.acls s.acl) (s.term + 1) (drop s.line (lines_at c.acls s.acl)) =
    rest_falls (weigh c.acls s.acl) s.line (s.term + 1) (lines_at c.acls s.acl) within in
    omega (arith, one)

-- a look takes something away
pub looked_weight : (c : Configuration) (line term : ℕ) (groups : List GroupSpot) (t : Term) (hit : Bool)
    → next_at (lines_on c groups) (line_on line groups) (term_on term groups) ≡ next.Term t
    → ahead_weight c (line_moved hit line groups) (term_moved hit term groups) (groups_moved hit groups)
    < ahead_weight c line term groups
looked_weight c line term groups t hit e =
    let one : ahead_weight c line term groups ≡ weigh c.acls (bound_on c groups) t + behind_weight c line term groups =
    ahead_at_term_weight c line term groups t e in
    let two : 1 ≤ weigh c.acls (bound_on c groups) t = weigh_least c.acls (bound_on c groups) t in
    let at = in_line (slice_get (lines_on c groups) (line_on line groups)) (term_on term groups) t e in
    let three : ahead_weight c (line_moved hit line groups) (term_moved hit term groups) (groups_moved hit groups)
    ≤ behind_weight c line term groups =
    moved_weight c line term groups hit (slice_get_within (lines_on c groups) (line_on line groups) at.0 at.1) in
    omega (arith, one, two, three)

-- so does opening a group
pub opened_weight : (c : Configuration) (line term : ℕ) (groups : List GroupSpot) (t : Term) (b : Bool)
    → next_at (lines_on c groups) (line_on line groups) (term_on term groups) ≡ next.Term t
    → t.acl < bound_on c groups
    → ahead_weight c line term (record { acl = t.acl; negated = b; line = 0; term = 0 } ∷ groups)
    < ahead_weight c line term groups
opened_weight c line term groups t b e before =
    let one : ahead_weight c line term groups ≡ weigh c.acls (bound_on c groups) t + behind_weight c line term groups =
    ahead_at_term_weight c line term groups t e in
    let two : 2 + lines_weight (weigh c.acls t.acl) (lines_at c.acls t.acl) ≤ weigh c.acls (bound_on c groups) t =
    weigh_over c.acls (bound_on c groups) t before in
    let three : rest_weight (weigh c.acls t.acl) 0 (lines_at c.acls t.acl)
    ≡ lines_weight (weigh c.acls t.acl) (lines_at c.acls t.acl) =
    rest_begun (weigh c.acls t.acl) (lines_at c.acls t.acl) in
    omega (arith, one, two, three)

-- so does closing one
pub closed_weight : (c : Configuration) (line term : ℕ) (s : GroupSpot) (groups : List GroupSpot) (hit : Bool)
    → line_on line groups < length (lines_on c groups)
    → ahead_weight c (line_moved hit line groups) (term_moved hit term groups) (groups_moved hit groups)
    < ahead_weight c line term (s ∷ groups)
closed_weight c line term s groups hit within =
    let one : ahead_weight c (line_moved hit line groups) (term_moved hit term groups) (groups_moved hit groups)
    ≤ behind_weight c line term groups = moved_weight c line term groups hit within in
    omega (arith, one)
