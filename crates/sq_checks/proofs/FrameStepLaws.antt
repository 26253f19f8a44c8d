-- Each step leads on.
use Rattle.std.proofs.Common.{◌≡◌, ℕ, ◌+◌, ◌<◌, ◌≤◌, List, [], ◌∷◌, ◌++◌, drop, length, min, slice_get, slice_index_or, Bool, true, false, if◌then◌else◌, Option, Some, None, refl, sym, ap, subst, ◌∙◌, arith}
use Rattle.std.proofs.lemmas.Option.{slice_get_within}
use Rattle.sq_base.specs.declared.helpers.Cause.{Cause}
use Rattle.sq_rules.specs.Configurations.{Configuration, is_leaf_body}
use Rattle.sq_rules.specs.Values.{turned, value_if}
use Rattle.sq_rules.specs.Verdicts.{name_of}
use Rattle.sq_rules.specs.Walks.{Seen, term_seen}
use Rattle.sq_rules.specs.declared.configs.Acl.{Acl}
use Rattle.sq_rules.specs.declared.configs.Body.{Body}
use Rattle.sq_rules.specs.declared.configs.Body.TheVariants as body
use Rattle.sq_rules.specs.declared.configs.Term.{Term}
use Rattle.sq_rules.specs.declared.outcomes.Why.TheVariants as why
use Rattle.sq_rules.specs.declared.values.TermValue.{TermValue}
use Rattle.sq_rules.specs.declared.values.TermValue.TheVariants.{Hit, Miss, Fault, Need}
use Rattle.sq_rules.specs.declared.values.Value.TheVariants as value
use Rattle.sq_checks.proofs.CourseLaws.{ahead_at_term, ahead_failed, ahead_held, ahead_moved, fault_stops, in_line, lines_begun, need_stops, turned_fault, turned_need}
use Rattle.sq_checks.proofs.MemberLaws.{term_of_group, term_of_plain}
use Rattle.sq_checks.proofs.NestLaws.{fits_within}
use Rattle.sq_checks.proofs.WeightLaws.{closed_weight, looked_weight, opened_weight}
use Rattle.sq_checks.specs.Courses.{Course, Extends, ahead, behind, is_need, leaf_here, leaves, walked}
use Rattle.sq_checks.specs.GivenValues.{given_at, given_value, ran_value, taken_given, taken_of_acl, taken_of_body}
use Rattle.sq_checks.specs.Groups.{AreOpen, body_of, first_of, groups_moved, line_moved, line_on, lines_at, lines_on, next_at, term_moved, term_on, under_not}
use Rattle.sq_checks.specs.Kinds.{group_body, is_group_at, is_leaf_at, leaf_of}
use Rattle.sq_checks.specs.Positions.{Asks, FaultIs, Goes, IsNext, IsPosition, IsStep, IsStop, acl_next, course_at, look_limit, looked_more, next_of, position_moved}
use Rattle.sq_checks.specs.Slots.{external_of, is_external, is_external_at}
use Rattle.sq_checks.specs.Weights.{ahead_weight}
use Rattle.sq_checks.specs.declared.answers.Given.{Given}
use Rattle.sq_checks.specs.declared.answers.Place.TheVariants as place
use Rattle.sq_checks.specs.declared.answers.Ran.{Ran}
use Rattle.sq_checks.specs.declared.answers.Ran.TheVariants as ran
use Rattle.sq_checks.specs.declared.looking.Next.TheVariants as next
use Rattle.sq_checks.specs.declared.positions.Position.{Position}
use Rattle.sq_checks.specs.declared.spots.GroupSpot.{GroupSpot}

-- where a term is next, its line is there
pub pointed : (c : Configuration) (line term : ℕ) (groups : List GroupSpot) (t : Term)
    → next_at (lines_on c groups) (line_on line groups) (term_on term groups) ≡ next.Term t
    → line_on line groups < length (lines_on c groups)
pointed c line term groups t e =
    let at = in_line (slice_get (lines_on c groups) (line_on line groups)) (term_on term groups) t e in
    slice_get_within (lines_on c groups) (line_on line groups) at.0 at.1

open_moved : (c : Configuration) (room line term : ℕ) (groups : List GroupSpot) (hit : Bool)
    → AreOpen c room line term groups
    → AreOpen c room (line_moved hit line groups) (term_moved hit term groups) (groups_moved hit groups)
open_moved c room line term [] hit are = tt
open_moved c room line term (s ∷ groups) hit are = (
  record {
    pointed = are.0.pointed;
    small = are.0.small;
    before = are.0.before;
    fits = are.0.fits;
  },
  are.1,
)

-- behind a term the place is one
stands_moved : (c : Configuration) (p : Position) (hit : Bool) → IsPosition c p → IsPosition c (position_moved hit p)
stands_moved c p hit is = record {
  groups = open_moved c p.groups.room p.line p.term p.groups.list hit is.groups;
  room = is.room;
  counted = is.counted;
}

stands_counted : (c : Configuration) (p : Position) → IsPosition c p → IsPosition c (looked_more p)
stands_counted c p is = record { groups = is.groups; room = is.room; counted = omega (arith, is.counted) }

-- a match or a mismatch, under `!` or not
pub turned_if : (b hit : Bool) → turned b (value_if hit) ≡ value_if (under_not b hit)
turned_if true true = refl
turned_if true false = refl
turned_if false true = refl
turned_if false false = refl

-- behind the value of an acl that is no group
moved_course : (taken more : ℕ → TermValue) (c : Configuration) (p : Position) (t : Term) (b : Body) (hit : Bool)
    → IsNext c p t → body_of (slice_get c.acls t.acl) ≡ Some b → group_body b ≡ false
    → taken t.acl ≡ value_if hit → Extends taken more
    → course_at more c p ≡ walked (t.acl ∷ []) (course_at more c (position_moved (under_not t.negated hit) p))
moved_course taken more c p t b hit is here plain given extends =
    let known : is_need (taken t.acl) ≡ false = ap is_need given ∙ no_need hit in
    let turns : turned t.negated (more t.acl) ≡ value_if (under_not t.negated hit) =
    ap (turned t.negated) (extends t.acl known ∙ given) ∙ turned_if t.negated hit in
    ahead_at_term more c p.line p.term p.groups.list t is.next_is
    ∙ ap (λ (x : Seen). walked x.walk (behind more c p.line p.term p.groups.list x.value))
    (term_of_plain more c.acls t b here plain)
    ∙ ap (λ v. walked (t.acl ∷ []) (behind more c p.line p.term p.groups.list v)) turns
    ∙ ap (walked (t.acl ∷ []))
    (ahead_moved more c p.line p.term p.groups.list (under_not t.negated hit)
    (pointed c p.line p.term p.groups.list t is.next_is))
  where
    no_need : (h : Bool) → is_need (value_if h) ≡ false
    no_need true = refl
    no_need false = refl

leaf_some : (o : Option Acl) → leaf_of o ≡ true
    → (b : Body) × (body_of o ≡ Some b) × (group_body b ≡ false) × (leaf_here o ≡ 1)
leaf_some None e = absurd (cc)
leaf_some (Some a) e = (a.body, refl, leaf_group a.body e, rw e refl)
  where
    leaf_group : (b : Body) → is_leaf_body b ≡ true → group_body b ≡ false
    leaf_group (body.Leaf l) f = refl
    leaf_group (body.External class arguments) f = refl
    leaf_group (body.AnyOf terms) f = absurd (cc)
    leaf_group (body.AllOf lines) f = absurd (cc)

external_some : (o : Option Acl) → external_of o ≡ true
    → (b : Body) × (body_of o ≡ Some b) × (group_body b ≡ false) × (leaf_here o ≡ 0)
external_some None e = absurd (cc)
external_some (Some a) e = (a.body, refl, external_group a.body e, rw (external_leaf a.body e) refl)
  where
    external_group : (b : Body) → is_external b ≡ true → group_body b ≡ false
    external_group (body.Leaf l) f = refl
    external_group (body.External class arguments) f = refl
    external_group (body.AnyOf terms) f = absurd (cc)
    external_group (body.AllOf lines) f = absurd (cc)

    external_leaf : (b : Body) → is_external b ≡ true → is_leaf_body b ≡ false
    external_leaf (body.Leaf l) f = absurd (cc)
    external_leaf (body.External class arguments) f = refl
    external_leaf (body.AnyOf terms) f = refl
    external_leaf (body.AllOf lines) f = refl

-- what is taken of a leaf acl is its fact
pub leaf_taken : (acls : List Acl) (slots : List ℕ) (facts : List Bool) (table : List (Option Given)) (acl : ℕ)
    → is_leaf_at acls acl ≡ true
    → taken_given acls slots facts table acl ≡ value_if (slice_index_or facts acl false)
leaf_taken acls slots facts table acl leaf = at (slice_get acls acl) leaf
  where
    by_body : (b : Body) → is_leaf_body b ≡ true
        → taken_of_body facts (given_at slots table acl) acl b ≡ value_if (slice_index_or facts acl false)
    by_body (body.Leaf l) e = refl
    by_body (body.External class arguments) e = absurd (cc)
    by_body (body.AnyOf terms) e = absurd (cc)
    by_body (body.AllOf lines) e = absurd (cc)

    at : (o : Option Acl) → leaf_of o ≡ true
        → taken_of_acl facts (given_at slots table acl) acl o ≡ value_if (slice_index_or facts acl false)
    at None e = absurd (cc)
    at (Some a) e = by_body a.body e

-- what is taken of an external acl is what was given for it
pub external_taken : (acls : List Acl) (slots : List ℕ) (facts : List Bool) (table : List (Option Given)) (acl : ℕ)
    → is_external_at acls acl ≡ true
    → taken_given acls slots facts table acl ≡ given_value acl (given_at slots table acl)
external_taken acls slots facts table acl external = at (slice_get acls acl) external
  where
    by_body : (b : Body) → is_external b ≡ true
        → taken_of_body facts (given_at slots table acl) acl b ≡ given_value acl (given_at slots table acl)
    by_body (body.Leaf l) e = absurd (cc)
    by_body (body.External class arguments) e = refl
    by_body (body.AnyOf terms) e = absurd (cc)
    by_body (body.AllOf lines) e = absurd (cc)

    at : (o : Option Acl) → external_of o ≡ true
        → taken_of_acl facts (given_at slots table acl) acl o ≡ given_value acl (given_at slots table acl)
    at None e = absurd (cc)
    at (Some a) e = by_body a.body e

-- a look at a leaf acl
pub leaf_step : (taken : ℕ → TermValue) (c : Configuration) (p : Position) (t : Term) (fact : Bool) (n : ℕ)
    → IsNext c p t → is_leaf_at c.acls t.acl ≡ true → taken t.acl ≡ value_if fact
    → IsStep taken c p (position_moved (under_not t.negated fact) (looked_more p)) n (n + 1)
leaf_step taken c p t fact n is leaf given =
    let hit = under_not t.negated fact in
    let b = leaf_some (slice_get c.acls t.acl) leaf in
    let course : (more : ℕ → TermValue) → Extends taken more
    → course_at more c p ≡ walked (t.acl ∷ []) (course_at more c (position_moved hit p)) =
    λ more extends. moved_course taken more c p t b.0 fact is b.1 b.2 given extends in
    record {
      goes = record {
        looked = 1;
        counts = refl;
        looks = refl;
        value = λ more extends. sym (ap (λ (x : Course). x.value) (course more extends));
        leaves_are = λ more extends. ap (λ (x : Course). leaves c.acls x.walk) (course more extends)
            ∙ ap (λ k. k + leaves c.acls (course_at more c (position_moved hit p)).walk) b.3;
      };
      stands = stands_moved c (looked_more p) hit (stands_counted c p is.position);
      falls = looked_weight c p.line p.term p.groups.list t hit is.next_is;
    }

-- a value that was given
pub given_step : (taken : ℕ → TermValue) (c : Configuration) (p : Position) (t : Term) (fact : Bool) (n : ℕ)
    → IsNext c p t → is_external_at c.acls t.acl ≡ true → taken t.acl ≡ value_if fact
    → IsStep taken c p (position_moved (under_not t.negated fact) p) n n
given_step taken c p t fact n is external given =
    let hit = under_not t.negated fact in
    let b = external_some (slice_get c.acls t.acl) external in
    let course : (more : ℕ → TermValue) → Extends taken more
    → course_at more c p ≡ walked (t.acl ∷ []) (course_at more c (position_moved hit p)) =
    λ more extends. moved_course taken more c p t b.0 fact is b.1 b.2 given extends in
    record {
      goes = record {
        looked = 0;
        counts = omega arith;
        looks = let few : p.looks ≤ look_limit = is.position.counted in omega arith;
        value = λ more extends. sym (ap (λ (x : Course). x.value) (course more extends));
        leaves_are = λ more extends. ap (λ (x : Course). leaves c.acls x.walk) (course more extends)
            ∙ ap (λ k. k + leaves c.acls (course_at more c (position_moved hit p)).walk) b.3;
      };
      stands = stands_moved c p hit is.position;
      falls = looked_weight c p.line p.term p.groups.list t hit is.next_is;
    }

-- a place with one group more
abbrev pub entered : Term → Position → Position
entered t p = record p {
  groups =
      record {
        room = p.groups.room;
        list = record { acl = t.acl; negated = t.negated; line = 0; term = 0 } ∷ p.groups.list;
      };
}

-- steps that look at nothing
still : (taken : ℕ → TermValue) (c : Configuration) (p q : Position) (n : ℕ) → IsPosition c p → q.looks ≡ p.looks
    → ((more : ℕ → TermValue) → course_at more c p ≡ course_at more c q) → Goes taken c p q n n
still taken c p q n is same course = record {
  looked = 0;
  counts = omega arith;
  looks = let few : p.looks ≤ look_limit = is.counted in omega (arith, same);
  value = λ more extends. sym (ap (λ (x : Course). x.value) (course more));
  leaves_are = λ more extends. let e : leaves c.acls (course_at more c p).walk
      ≡ leaves c.acls (course_at more c q).walk = ap (λ (x : Course). leaves c.acls x.walk) (course more) in
      omega (arith, e);
}

-- a group that opens
pub group_step : (taken : ℕ → TermValue) (c : Configuration) (p : Position) (t : Term) (n : ℕ) → IsNext c p t
    → is_group_at c.acls t.acl ≡ true → IsStep taken c p (entered t p) n n
group_step taken c p t n is group = record {
  goes = still taken c p (entered t p) n is.position refl course;
  stands = record {
    groups = (
      record {
        pointed = pointed c p.line p.term p.groups.list t is.next_is;
        small = (is.small.line, is.small.term);
        before = is.before;
        fits = fits_within c p t is;
      },
      is.position.groups,
    );
    room = is.position.room;
    counted = is.position.counted;
  };
  falls = opened_weight c p.line p.term p.groups.list t t.negated is.next_is is.before;
}
  where
    course : (more : ℕ → TermValue) → course_at more c p ≡ course_at more c (entered t p)
    course more =
        let f = term_seen more c.acls in
        ahead_at_term more c p.line p.term p.groups.list t is.next_is
        ∙ ap (λ (x : Seen). walked x.walk (behind more c p.line p.term p.groups.list x.value))
        (term_of_group more (length c.classes) c.acls t is.config.members group)
        ∙ ap (λ (x : Seen). walked x.walk (behind more c p.line p.term p.groups.list (turned t.negated x.value)))
        (sym (lines_begun f (lines_at c.acls t.acl)))

-- a place with the innermost group closed
abbrev pub closed : List GroupSpot → Position → Position
closed groups p = record p { groups = record { room = p.groups.room; list = groups } }

closes : (taken : ℕ → TermValue) (c : Configuration) (line term : ℕ) (s : GroupSpot) (groups : List GroupSpot)
    (held : Bool) → next_at (lines_at c.acls s.acl) s.line s.term ≡ (if held then next.Held else next.Failed)
    → ahead taken c line term (s ∷ groups) ≡ behind taken c line term groups (value_if (under_not s.negated held))
closes taken c line term s groups true ends = ahead_held taken c line term s groups ends
    ∙ ap (behind taken c line term groups) (turned_if s.negated true)
closes taken c line term s groups false ends = ahead_failed taken c line term s groups ends
    ∙ ap (behind taken c line term groups) (turned_if s.negated false)

-- a group that closes, where a line of it has held or all have failed
pub closed_step : (taken : ℕ → TermValue) (c : Configuration) (p : Position) (s : GroupSpot) (groups : List GroupSpot)
    (held : Bool) (n : ℕ) → IsPosition c p → p.groups.list ≡ s ∷ groups
    → next_of c p ≡ (if held then next.Held else next.Failed)
    → IsStep taken c p (position_moved (under_not s.negated held) (closed groups p)) n n
closed_step taken c p s groups held n is here ends =
    let hit = under_not s.negated held in
    let are : AreOpen c p.groups.room p.line p.term (s ∷ groups) =
    subst (AreOpen c p.groups.room p.line p.term) here is.groups in
    let end : next_at (lines_at c.acls s.acl) s.line s.term ≡ (if held then next.Held else next.Failed) =
    subst (λ (l : List GroupSpot). next_at (lines_on c l) (line_on p.line l) (term_on p.term l)
    ≡ (if held then next.Held else next.Failed)) here ends in
    let less : ahead_weight c (line_moved hit p.line groups) (term_moved hit p.term groups) (groups_moved hit groups)
    < ahead_weight c p.line p.term (s ∷ groups) = closed_weight c p.line p.term s groups hit are.0.pointed in
    record {
      goes = still taken c p (position_moved hit (closed groups p)) n is refl
          (λ more. ap (ahead more c p.line p.term) here ∙ closes more c p.line p.term s groups held end
          ∙ ahead_moved more c p.line p.term groups hit are.0.pointed);
      stands = stands_moved c (closed groups p) hit (record { groups = are.1; room = is.room; counted = is.counted });
      falls = subst (λ (l : List GroupSpot). ahead_weight c (line_moved hit p.line groups)
          (term_moved hit p.term groups) (groups_moved hit groups) < ahead_weight c p.line p.term l) (sym here) less;
    }

-- where a value is next that is neither a match nor a mismatch, it is what the rules come to
stops : (taken : ℕ → TermValue) (c : Configuration) (p : Position) (t : Term) (v : TermValue) → IsNext c p t
    → is_external_at c.acls t.acl ≡ true → taken t.acl ≡ v → turned t.negated v ≡ v
    → (course_at taken c p).value ≡ (behind taken c p.line p.term p.groups.list v).value
stops taken c p t v is external given same =
    let b = external_some (slice_get c.acls t.acl) external in
    ap (λ (x : Course). x.value) (ahead_at_term taken c p.line p.term p.groups.list t is.next_is)
    ∙ ap (λ (x : Seen). (behind taken c p.line p.term p.groups.list x.value).value)
    (term_of_plain taken c.acls t b.0 b.1 b.2)
    ∙ ap (λ w. (behind taken c p.line p.term p.groups.list (turned t.negated w)).value) given
    ∙ ap (λ w. (behind taken c p.line p.term p.groups.list w).value) same

need_stop : (taken : ℕ → TermValue) (c : Configuration) (p : Position) (t : Term) → IsNext c p t
    → is_external_at c.acls t.acl ≡ true → taken t.acl ≡ Need t.acl []
    → value.Need t.acl [] ≡ (course_at taken c p).value
need_stop taken c p t is external given =
    sym (
    stops taken c p t (Need t.acl []) is external given (turned_need t.negated t.acl [])
    ∙ ap (λ (x : Course). x.value) (need_stops taken c p.line p.term p.groups.list t.acl [] is.rule)
    )

fault_stop : (taken : ℕ → TermValue) (c : Configuration) (p : Position) (t : Term) (cause : Cause) → IsNext c p t
    → is_external_at c.acls t.acl ≡ true → taken t.acl ≡ Fault t.acl cause
    → value.Verdict (record { allow = false; why = why.Fault (p.line + 1) (name_of (slice_get c.acls t.acl)) cause })
    ≡ (course_at taken c p).value
fault_stop taken c p t cause is external given =
    sym (
    stops taken c p t (Fault t.acl cause) is external given (turned_fault t.negated t.acl cause)
    ∙ ap (λ (x : Course). x.value) (fault_stops taken c p.line p.term p.groups.list t.acl cause is.rule)
    )

-- and its acl is the last of their walk
last : (taken : ℕ → TermValue) (c : Configuration) (p : Position) (t : Term) (v : TermValue) → IsNext c p t
    → is_external_at c.acls t.acl ≡ true → taken t.acl ≡ v → turned t.negated v ≡ v
    → (behind taken c p.line p.term p.groups.list v).walk ≡ []
    → leaves c.acls (course_at taken c p).walk ≡ 0
last taken c p t v is external given same none =
    let b = external_some (slice_get c.acls t.acl) external in
    let walk : (course_at taken c p).walk ≡ t.acl ∷ [] =
    ap (λ (x : Course). x.walk) (ahead_at_term taken c p.line p.term p.groups.list t is.next_is)
    ∙ ap (λ (x : Seen). x.walk ++ (behind taken c p.line p.term p.groups.list x.value).walk)
    (term_of_plain taken c.acls t b.0 b.1 b.2)
    ∙ ap (λ w. t.acl ∷ (behind taken c p.line p.term p.groups.list (turned t.negated w)).walk) given
    ∙ ap (λ w. t.acl ∷ (behind taken c p.line p.term p.groups.list w).walk) same
    ∙ ap (λ (l : List ℕ). t.acl ∷ l) none in
    ap (leaves c.acls) walk ∙ ap (λ k. k + 0) b.3

need_of : (v : TermValue) → is_need v ≡ true → (acl : ℕ) × (key : List ℕ) × (v ≡ Need acl key)
need_of Hit e = absurd (cc)
need_of Miss e = absurd (cc)
need_of (Fault acl cause) e = absurd (cc)
need_of (Need acl key) e = (acl, key, refl)

-- at an acl that is needed a run is over
pub stops_needed : (taken : ℕ → TermValue) (c : Configuration) (p : Position) (t : Term) → IsNext c p t
    → is_external_at c.acls t.acl ≡ true → taken t.acl ≡ Need t.acl [] → IsStop taken c p (ran.Need t.acl)
stops_needed taken c p t is external given = record {
  ran = need_stop taken c p t is external given;
  none_left = λ more extends still.
      let n = need_of (more t.acl) still in
      last more c p t (Need n.0 n.1) is external n.2 (turned_need t.negated n.0 n.1)
      (ap (λ (x : Course). x.walk) (need_stops more c p.line p.term p.groups.list n.0 n.1 is.rule));
  fault_is = tt;
}

-- at an acl that has a fault a run is over
pub stops_faulty : (taken : ℕ → TermValue) (c : Configuration) (p : Position) (t : Term) (cause : Cause) → IsNext c p t
    → is_external_at c.acls t.acl ≡ true → taken t.acl ≡ Fault t.acl cause
    → IsStop taken c p (ran.Verdict false (place.Fault (p.line + 1) t.acl cause))
stops_faulty taken c p t cause is external given = record {
  ran = fault_stop taken c p t cause is external given;
  none_left = λ more extends still.
      let more_is : more t.acl ≡ Fault t.acl cause = extends t.acl (ap is_need given) ∙ given in
      last more c p t (Fault t.acl cause) is external more_is (turned_fault t.negated t.acl cause)
      (ap (λ (x : Course). x.walk) (fault_stops more c p.line p.term p.groups.list t.acl cause is.rule));
  fault_is = (ap acl_next is.next_is, given);
}

-- where no leaf acl is left and no acl had a fault
pub stops_decided : (taken : ℕ → TermValue) (c : Configuration) (p : Position) (r : Ran) (x : Course)
    → course_at taken c p ≡ x → ran_value c.acls r ≡ x.value
    → ((more : ℕ → TermValue) → leaves c.acls (course_at more c p).walk ≡ 0) → FaultIs taken c p r
    → IsStop taken c p r
stops_decided taken c p r x course value none faultless = record {
  ran = value ∙ ap (λ (y : Course). y.value) (sym course);
  none_left = λ more extends still. none more;
  fault_is = faultless;
}

-- the first group stands in front of the others
pub first_here : (groups : List GroupSpot) (s : GroupSpot) → first_of groups ≡ Some s → groups ≡ s ∷ drop 1 groups
first_here [] s e = absurd (cc)
first_here (x ∷ groups) s e = let same : x ≡ s = cc in ap (λ y. y ∷ groups) same

pub none_here : (groups : List GroupSpot) → first_of groups ≡ None → groups ≡ []
none_here [] e = refl
none_here (x ∷ groups) e = absurd (cc)

-- no step leads nowhere
pub goes_none : (taken : ℕ → TermValue) (c : Configuration) (p : Position) (n : ℕ) → IsPosition c p
    → Goes taken c p p n n
goes_none taken c p n is = still taken c p p n is refl (λ more. refl)

-- steps lead on from where others led
pub goes_on : (taken : ℕ → TermValue) (c : Configuration) (p q r : Position) (k m n : ℕ) → Goes taken c p q k m
    → Goes taken c q r m n → Goes taken c p r k n
goes_on taken c p q r k m n first second = record {
  looked = first.looked + second.looked;
  counts = let a : m ≡ k + first.looked = first.counts in let b : n ≡ m + second.looked = second.counts in
      omega (arith, a, b);
  looks = let a : q.looks ≡ min look_limit (p.looks + first.looked) = first.looks in
      let b : r.looks ≡ min look_limit (q.looks + second.looked) = second.looks in omega (arith, a, b);
  value = λ more extends. second.value more extends ∙ first.value more extends;
  leaves_are = λ more extends.
      let a : leaves c.acls (course_at more c p).walk ≡ first.looked + leaves c.acls (course_at more c q).walk =
      first.leaves_are more extends in
      let b : leaves c.acls (course_at more c q).walk ≡ second.looked + leaves c.acls (course_at more c r).walk =
      second.leaves_are more extends in
      omega (arith, a, b);
}

-- where nothing is needed, nothing is asked
pub nothing_asked : (acls : List Acl) (slots : List ℕ) (table : List (Option Given)) (need : Option ℕ) → need ≡ None
    → Asks acls slots table need
nothing_asked acls slots table need none acl e = absurd (none_some (sym none ∙ e))
  where
    none_some : None ≡ Some acl → ⊥
    none_some x = cc

-- an acl that was given nothing asks
pub asks_it : (acls : List Acl) (slots : List ℕ) (table : List (Option Given)) (acl : ℕ)
    → is_external_at acls acl ≡ true → given_at slots table acl ≡ None → Asks acls slots table (Some acl)
asks_it acls slots table acl external none other e =
    let same : acl ≡ other = cc in
    subst (λ (a : ℕ). (is_external_at acls a ≡ true) × (given_at slots table a ≡ None)) same (external, none)
