-- Frames as a value, and what it is for them to be at a place in the rules.
use Rattle.std.specs.Prelude.{◌≡◌, ℕ, ◌+◌, List, Bool, true, length, min}
use Rattle.std.specs.declared.option.Option.{Option}
use Rattle.sq_rules.specs.Configurations.{Configuration}
use Rattle.sq_rules.specs.Verdicts.{default_of, rules_from}
use Rattle.sq_rules.specs.declared.values.TermValue.{TermValue}
use Rattle.sq_rules.specs.declared.values.Value.{Value}
use Rattle.sq_checks.specs.Courses.{Extends, leaves, leaves_by, still_needed}
use Rattle.sq_checks.specs.GivenValues.{given_at, taken_given}
use Rattle.sq_checks.specs.Positions.{Asks, IsPosition, course_at, look_limit}
use Rattle.sq_checks.specs.Slots.{externals_on, slots_of}
use Rattle.sq_checks.specs.declared.answers.Given.{Given}
use Rattle.sq_checks.specs.declared.positions.Position.{Position}

-- the configuration, the values that were given, the place in the rules, and the external acl that
-- is needed
pub record Standing : Type 0 where
  pub config : Configuration
  pub table : List (Option Given)
  pub position : Position
  pub need : Option ℕ

-- what holds of all frames
pub record IsStanding (f : Standing) : Type 0 where
  pub position : IsPosition f.config f.position
  pub table : length f.table ≡ externals_on 0 f.config.acls
  pub need : Asks f.config.acls (slots_of f.config.acls) f.table f.need

-- what was given for the external acl at a place
abbrev pub given_to : Standing → ℕ → Option Given
given_to f acl = given_at (slots_of f.config.acls) f.table acl

-- what is taken at a place, over the facts of a check and the values that were given
abbrev pub taken_of : List Bool → Standing → ℕ → TermValue
taken_of facts f = taken_given f.config.acls (slots_of f.config.acls) facts f.table

-- what the rules come to over these facts and given values, by direct evaluation
abbrev pub value_over : List Bool → Configuration → List (Option Given) → Value
value_over facts c table = rules_from (taken_given c.acls (slots_of c.acls) facts table) c.acls
    (default_of c.rules) 1 c.rules

abbrev pub value_of : List Bool → Standing → Value
value_of facts f = value_over facts f.config f.table

-- After so many looks, over these facts and given values: the rules come to what they come to from
-- the place on, and the walk has so many leaf acls more than from the place on, whatever is given
-- from now on.
pub record IsPlaced (facts : List Bool) (c : Configuration) (table : List (Option Given))
    (p : Position) (looked : ℕ) : Type 0 where
  pub looks : p.looks ≡ min look_limit looked
  pub value : (more : ℕ → TermValue)
      → Extends (taken_given c.acls (slots_of c.acls) facts table) more
      → (course_at more c p).value ≡ rules_from more c.acls (default_of c.rules) 1 c.rules
  pub leaves_are : (more : ℕ → TermValue)
      → Extends (taken_given c.acls (slots_of c.acls) facts table) more
      → leaves_by more c ≡ looked + leaves c.acls (course_at more c p).walk

-- frames at a place in the rules, over these facts and after so many looks
abbrev pub IsAt : List Bool → Standing → ℕ → Type 0
IsAt facts f looked = IsPlaced facts f.config f.table f.position looked

-- frames at a place in the rules, over these facts
abbrev pub IsOver : List Bool → Standing → Type 0
IsOver facts f = (looked : ℕ) × IsAt facts f looked

-- how many leaf acls the walk of the rules has, over the values that were given
abbrev pub leaves_of : List Bool → Standing → ℕ
leaves_of facts f = leaves_by (taken_of facts f) f.config

-- the walk of the rules has the leaf acls that it has over the values that were given, whatever is
-- given from now on, but for the acl that is needed, if one is
abbrev pub IsWhole : List Bool → Configuration → List (Option Given) → Option ℕ → Type 0
IsWhole facts c table need = (more : ℕ → TermValue)
    → Extends (taken_given c.acls (slots_of c.acls) facts table) more
    → still_needed more need ≡ true
    → leaves_by more c ≡ leaves_by (taken_given c.acls (slots_of c.acls) facts table) c

-- how many looks were counted
abbrev pub looks_in : Standing → ℕ
looks_in f = f.position.looks
