-- Frames are at a place in the rules from their beginning on.
use Rattle.std.proofs.Common.{◌≡◌, ℕ, ◌+◌, ◌≤◌, List, [], length, min, slice_index_or, set, Bool, true, Option, Some, None, refl, sym, ap, subst, ◌∙◌, arith}
use Rattle.sq_rules.specs.Configurations.{Configuration}
use Rattle.sq_rules.specs.Verdicts.{default_of, rules_from}
use Rattle.sq_rules.specs.Walks.{rules_walk}
use Rattle.sq_rules.specs.declared.values.TermValue.{TermValue}
use Rattle.sq_checks.proofs.CourseLaws.{rules_begun}
use Rattle.sq_checks.proofs.SlotLaws.{extends_after}
use Rattle.sq_checks.proofs.FrameStepLaws.{external_taken}
use Rattle.sq_checks.specs.Courses.{Course, Extends, is_need, leaves, leaves_by, still_needed}
use Rattle.sq_checks.specs.GivenValues.{given_at, given_value, taken_given}
use Rattle.sq_checks.specs.Positions.{Asks, Goes, NoneLeft, course_at, look_limit}
use Rattle.sq_checks.specs.Slots.{externals_on, is_external_at, slots_of}
use Rattle.sq_checks.specs.Standing.{IsAt, IsOver, IsPlaced, IsWhole, Standing, looks_in, taken_of}
use Rattle.sq_checks.specs.declared.answers.Given.{Given}
use Rattle.sq_checks.specs.declared.positions.Position.{Position}

-- before the first rule
pub placed_first : (facts : List Bool) (c : Configuration) (table : List (Option Given)) (p : Position) → p.line ≡ 0
    → p.term ≡ 0 → p.groups.list ≡ [] → p.looks ≡ 0 → IsPlaced facts c table p 0
placed_first facts c table p line term groups looks = record {
  looks = omega (arith, looks);
  value = λ more extends. ap (λ (x : Course). x.value) (course more);
  leaves_are = λ more extends. let same : leaves c.acls (course_at more c p).walk
      ≡ leaves c.acls (rules_walk more c.acls c.rules) = ap (λ (x : Course). leaves c.acls x.walk) (course more) in
      omega (arith, same);
}
  where
    course : (more : ℕ → TermValue)
        → course_at more c p ≡ record {
          value = rules_from more c.acls (default_of c.rules) 1 c.rules;
          walk = rules_walk more c.acls c.rules;
        }
    course more = rw (line, term, groups) (rules_begun more c 1 c.rules)

-- where steps led
pub placed_after : (facts : List Bool) (c : Configuration) (table : List (Option Given)) (p q : Position) (n a b : ℕ)
    → IsPlaced facts c table p n
    → Goes (taken_given c.acls (slots_of c.acls) facts table) c p q a b
    → (k : ℕ) × (b ≡ a + k) × IsPlaced facts c table q (n + k)
placed_after facts c table p q n a b is goes = (
  goes.looked,
  goes.counts,
  record {
    looks = let x : p.looks ≡ min look_limit n = is.looks in
        let y : q.looks ≡ min look_limit (p.looks + goes.looked) = goes.looks in omega (arith, x, y);
    value = λ more extends. goes.value more extends ∙ is.value more extends;
    leaves_are = λ more extends.
        let x : leaves c.acls (rules_walk more c.acls c.rules) ≡ n + leaves c.acls (course_at more c p).walk =
        is.leaves_are more extends in
        let y : leaves c.acls (course_at more c p).walk ≡ goes.looked + leaves c.acls (course_at more c q).walk =
        goes.leaves_are more extends in
        omega (arith, x, y);
  },
)

-- what the rules come to is what they come to from the place on
pub placed_value : (facts : List Bool) (c : Configuration) (table : List (Option Given)) (p : Position) (n : ℕ)
    → IsPlaced facts c table p n
    → (course_at (taken_given c.acls (slots_of c.acls) facts table) c p).value
    ≡ rules_from (taken_given c.acls (slots_of c.acls) facts table) c.acls (default_of c.rules) 1 c.rules
placed_value facts c table p n is = is.value (taken_given c.acls (slots_of c.acls) facts table) (λ acl known. refl)

-- where no leaf acl is left, as many looks were made as the walk has leaf acls, and the walk stays so
whole : (facts : List Bool) (c : Configuration) (table : List (Option Given)) (p : Position) (n : ℕ) (need : Option ℕ)
    (more : ℕ → TermValue) → IsPlaced facts c table p n
    → NoneLeft (taken_given c.acls (slots_of c.acls) facts table) c p need
    → Extends (taken_given c.acls (slots_of c.acls) facts table) more
    → still_needed more need ≡ true → leaves_by more c ≡ n
whole facts c table p n need more is none extends still =
    let x : leaves_by more c ≡ n + leaves c.acls (course_at more c p).walk = is.leaves_are more extends in
    let y : leaves c.acls (course_at more c p).walk ≡ 0 = none more extends still in
    omega (arith, x, y)

-- an acl that asks is needed
asks_still : (facts : List Bool) (c : Configuration) (table : List (Option Given)) (need : Option ℕ)
    → Asks c.acls (slots_of c.acls) table need
    → still_needed (taken_given c.acls (slots_of c.acls) facts table) need ≡ true
asks_still facts c table None asks = refl
asks_still facts c table (Some acl) asks =
    let it = asks acl refl in
    ap is_need (external_taken c.acls (slots_of c.acls) facts table acl it.0 ∙ ap (given_value acl) it.1)

pub placed_looked : (facts : List Bool) (c : Configuration) (table : List (Option Given)) (p : Position) (n : ℕ)
    (need : Option ℕ) → IsPlaced facts c table p n
    → NoneLeft (taken_given c.acls (slots_of c.acls) facts table) c p need
    → Asks c.acls (slots_of c.acls) table need
    → IsPlaced facts c table p (leaves_by (taken_given c.acls (slots_of c.acls) facts table) c)
placed_looked facts c table p n need is none asks =
    let taken = taken_given c.acls (slots_of c.acls) facts table in
    subst (λ (k : ℕ). IsPlaced facts c table p k)
    (sym (whole facts c table p n need taken is none (λ acl known. refl) (asks_still facts c table need asks))) is

pub placed_whole : (facts : List Bool) (c : Configuration) (table : List (Option Given)) (p : Position) (n : ℕ)
    (need : Option ℕ) → IsPlaced facts c table p n
    → NoneLeft (taken_given c.acls (slots_of c.acls) facts table) c p need
    → Asks c.acls (slots_of c.acls) table need → IsWhole facts c table need
placed_whole facts c table p n need is none asks = λ more extends still.
    whole facts c table p n need more is none extends still
    ∙ sym (whole facts c table p n need (taken_given c.acls (slots_of c.acls) facts table) is none (λ acl known. refl)
    (asks_still facts c table need asks))

-- no more looks are counted than the walk has leaf acls
pub placed_few : (facts : List Bool) (c : Configuration) (table : List (Option Given)) (p : Position) (n : ℕ)
    → IsPlaced facts c table p n
    → p.looks ≤ leaves c.acls (rules_walk (taken_given c.acls (slots_of c.acls) facts table) c.acls c.rules)
placed_few facts c table p n is =
    let x : p.looks ≡ min look_limit n = is.looks in
    let y : leaves c.acls (rules_walk (taken_given c.acls (slots_of c.acls) facts table) c.acls c.rules) ≡ n
    + leaves c.acls (course_at (taken_given c.acls (slots_of c.acls) facts table) c p).walk =
    is.leaves_are (taken_given c.acls (slots_of c.acls) facts table) (λ acl known. refl) in
    omega (arith, x, y)

-- a value that is given leaves the place
pub placed_given : (facts : List Bool) (c : Configuration) (table new : List (Option Given)) (need : ℕ) (v : Given)
    (p : Position) (n : ℕ) → length table ≡ externals_on 0 c.acls
    → is_external_at c.acls need ≡ true → given_at (slots_of c.acls) table need ≡ None
    → new ≡ set table (slice_index_or (slots_of c.acls) need 0) (Some v)
    → IsPlaced facts c table p n → IsPlaced facts c new p n
placed_given facts c table new need v p n counted external none is placed = record {
  looks = placed.looks;
  value = λ more extends. placed.value more
      (extends_after c.acls facts table new need v more counted external none is extends);
  leaves_are = λ more extends. placed.leaves_are more
      (extends_after c.acls facts table new need v more counted external none is extends);
}

-- whatever is given from now on, the walk has as many leaf acls as looks were counted
pub few_over : (facts : List Bool) (f : Standing) (more : ℕ → TermValue) → IsOver facts f
    → Extends (taken_of facts f) more → looks_in f ≤ leaves f.config.acls (rules_walk more f.config.acls f.config.rules)
few_over facts f more over extends =
    let x : f.position.looks ≡ min look_limit over.0 = over.1.looks in
    let y : leaves f.config.acls (rules_walk more f.config.acls f.config.rules) ≡ over.0
    + leaves f.config.acls (course_at more f.config f.position).walk = over.1.leaves_are more extends in
    omega (arith, x, y)

-- where nothing was looked at yet
pub none_looked : (facts : List Bool) (f : Standing) → IsAt facts f 0 → looks_in f ≡ 0
none_looked facts f at = let x : f.position.looks ≡ min look_limit 0 = at.looks in omega (arith, x)
