-- A place by its innermost open group, or by its rule.
use Rattle.std.proofs.Common.{◌≡◌, ℕ, ◌+◌, ◌<◌, ◌≤◌, ◌^◌, List, [], ◌∷◌, drop, length, slice_get, Bool, Option, Some, None, refl, sym, ap, subst, ◌∙◌, arith}
use Rattle.sq_rules.specs.Configurations.{Configuration, IsConfiguration}
use Rattle.sq_rules.specs.declared.configs.Acl.{Acl}
use Rattle.sq_rules.specs.declared.configs.Body.{Body}
use Rattle.sq_rules.specs.declared.configs.Term.{Term}
use Rattle.sq_checks.proofs.NestLaws.{bound_there, next_before, rule_there}
use Rattle.sq_checks.proofs.FrameStepLaws.{first_here, pointed}
use Rattle.sq_checks.specs.Groups.{AreOpen, FitsNext, body_of, bound_on, first_of, groups_moved, line_moved, line_on, lines_of, lines_of_body, lines_on, moved, next_at, term_moved, term_on}
use Rattle.sq_checks.specs.Positions.{IsNext, IsPosition, next_of, position_moved}
use Rattle.sq_checks.specs.declared.looking.Next.{Next}
use Rattle.sq_checks.specs.declared.looking.Next.TheVariants as next
use Rattle.sq_checks.specs.declared.positions.Position.{Position}
use Rattle.sq_checks.specs.declared.spots.GroupSpot.{GroupSpot}

lines_here : (o : Option Acl) (b : Body) → body_of o ≡ Some b → lines_of o ≡ lines_of_body b
lines_here None b e = absurd (cc)
lines_here (Some a) b e = let same : a.body ≡ b = cc in ap lines_of_body same

-- what is next in the innermost group is next
pub next_in_group : (c : Configuration) (line term : ℕ) (groups : List GroupSpot) (s : GroupSpot) (b : Body) (n : Next)
    → first_of groups ≡ Some s → body_of (slice_get c.acls s.acl) ≡ Some b
    → n ≡ next_at (lines_of_body b) s.line s.term
    → n ≡ next_at (lines_on c groups) (line_on line groups) (term_on term groups)
next_in_group c line term groups s b n first here is =
    is
    ∙ ap (λ (lines : List (List Term)). next_at lines s.line s.term) (sym (lines_here (slice_get c.acls s.acl) b here))
    ∙ ap (λ (g : List GroupSpot). next_at (lines_on c g) (line_on line g) (term_on term g))
    (sym (first_here groups s first))

pub fits_in_group : (line term : ℕ) (groups : List GroupSpot) (s : GroupSpot) (n : Next) → first_of groups ≡ Some s
    → FitsNext n s.line s.term → FitsNext n (line_on line groups) (term_on term groups)
fits_in_group line term groups s n first fits = subst (λ (g : List GroupSpot). FitsNext n (line_on line g)
    (term_on term g)) (sym (first_here groups s first)) fits

-- what is next in the rules is next where no group is open
pub next_in_rules : (c : Configuration) (line term : ℕ) (groups : List GroupSpot) (n : Next) → groups ≡ []
    → n ≡ next_at (lines_on c []) line term
    → n ≡ next_at (lines_on c groups) (line_on line groups) (term_on term groups)
next_in_rules c line term groups n none is = is
    ∙ ap (λ (g : List GroupSpot). next_at (lines_on c g) (line_on line g) (term_on term g)) (sym none)

pub fits_in_rules : (line term : ℕ) (groups : List GroupSpot) (n : Next) → groups ≡ [] → FitsNext n line term
    → FitsNext n (line_on line groups) (term_on term groups)
fits_in_rules line term groups n none fits = subst (λ (g : List GroupSpot). FitsNext n (line_on line g)
    (term_on term g)) (sym none) fits

-- the acl of the innermost group is there
pub group_there : (c : Configuration) (room line term : ℕ) (groups : List GroupSpot) (s : GroupSpot)
    → AreOpen c room line term groups → first_of groups ≡ Some s → s.acl < length c.acls
group_there c room line term [] s are first = absurd (cc)
group_there c room line term (x ∷ groups) s are first =
    let same : x ≡ s = cc in
    let one : x.acl < bound_on c groups = are.0.before in
    let two : bound_on c groups ≤ length c.acls = bound_there c room line term groups are.1 in
    let three : x.acl < length c.acls = omega (arith, one, two) in
    subst (λ (y : GroupSpot). y.acl < length c.acls) same three

-- behind a term of the innermost group
pub group_moved : (p : Position) (s : GroupSpot) (hit : Bool) → first_of p.groups.list ≡ Some s
    → record p { groups = record { room = p.groups.room; list = moved hit s ∷ drop 1 p.groups.list } }
    ≡ position_moved hit p
group_moved p s hit first = at p.groups.list first
  where
    at : (l : List GroupSpot) → first_of l ≡ Some s
        → record p { groups = record { room = p.groups.room; list = moved hit s ∷ drop 1 l } }
        ≡ record p {
          line = line_moved hit p.line l;
          term = term_moved hit p.term l;
          groups = record { room = p.groups.room; list = groups_moved hit l };
        }
    at [] e = absurd (cc)
    at (x ∷ l) e = let same : s ≡ x = cc in
        ap (λ (y : GroupSpot). record p { groups = record { room = p.groups.room; list = moved hit y ∷ l } }) same

-- behind a term of a rule
pub rule_moved : (p : Position) (hit : Bool) → p.groups.list ≡ []
    → record p { line = line_moved hit p.line []; term = term_moved hit p.term [] } ≡ position_moved hit p
rule_moved p hit none =
    subst (λ (l : List GroupSpot). record p {
      line = line_moved hit p.line [];
      term = term_moved hit p.term [];
      groups = record { room = p.groups.room; list = l };
    }
    ≡ record p {
      line = line_moved hit p.line l;
      term = term_moved hit p.term l;
      groups = record { room = p.groups.room; list = groups_moved hit l };
    }) (sym none) refl

small_of : (n : Next) (t : Term) (line term : ℕ) → n ≡ next.Term t → FitsNext n line term
    → (line + 1 < 2 ^ 64) × (term + 1 < 2 ^ 64)
small_of (next.Term u) t line term e fits = fits
small_of next.Held t line term e fits = absurd (cc)
small_of next.Failed t line term e fits = absurd (cc)

-- what is known of a term that is next
pub is_next : (c : Configuration) (p : Position) (t : Term) (n : Next) → IsConfiguration c → IsPosition c p
    → n ≡ next_of c p → n ≡ next.Term t
    → FitsNext n (line_on p.line p.groups.list) (term_on p.term p.groups.list) → IsNext c p t
is_next c p t n config position is term fits =
    let next_is : next_of c p ≡ next.Term t = sym is ∙ term in
    let small = small_of n t (line_on p.line p.groups.list) (term_on p.term p.groups.list) term fits in
    let before : t.acl < bound_on c p.groups.list = next_before c p.line p.term p.groups.list t config next_is in
    let bound : bound_on c p.groups.list ≤ length c.acls =
    bound_there c p.groups.room p.line p.term p.groups.list position.groups in
    record {
      config = config;
      position = position;
      next_is = next_is;
      small = record { line = small.0; term = small.1 };
      before = before;
      there = omega (arith, before, bound);
      rule = rule_there c p.groups.room p.line p.term p.groups.list position.groups
          (pointed c p.line p.term p.groups.list t next_is);
    }
