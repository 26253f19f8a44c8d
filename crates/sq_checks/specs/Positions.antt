-- A place in the rules as a value, and what it is that steps lead from one to another.
use Rattle.std.specs.Prelude.{◌≡◌, ℕ, ◌+◌, ◌-◌, ◌^◌, ◌≤◌, ◌<◌, List, Bool, true, length, min, Some, None, slice_index_or}
use Rattle.std.specs.declared.option.Option.{Option}
use Rattle.sq_rules.specs.Configurations.{Configuration, IsConfiguration, nestings}
use Rattle.sq_rules.specs.declared.configs.Acl.{Acl}
use Rattle.sq_rules.specs.declared.configs.Term.{Term}
use Rattle.sq_rules.specs.declared.values.TermValue.{TermValue}
use Rattle.sq_rules.specs.declared.values.TermValue.TheVariants.{Fault}
use Rattle.sq_checks.specs.Courses.{Course, Extends, ahead, leaves, still_needed}
use Rattle.sq_checks.specs.GivenValues.{given_at, needed_by, ran_value, taken_given}
use Rattle.sq_checks.specs.Groups.{AreOpen, bound_on, groups_moved, line_moved, line_on, lines_on, next_at, term_moved, term_on}
use Rattle.sq_checks.specs.Slots.{is_external_at}
use Rattle.sq_checks.specs.Weights.{weight_at}
use Rattle.sq_checks.specs.declared.answers.Given.{Given}
use Rattle.sq_checks.specs.declared.answers.Place.TheVariants as place
use Rattle.sq_checks.specs.declared.answers.Ran.{Ran}
use Rattle.sq_checks.specs.declared.answers.Ran.TheVariants as ran
use Rattle.sq_checks.specs.declared.looking.Next.{Next}
use Rattle.sq_checks.specs.declared.looking.Next.TheVariants as next
use Rattle.sq_checks.specs.declared.positions.Position.{Position}
use Rattle.sq_checks.specs.declared.walk_inputs.WalkInputs.{WalkInputs}

-- the greatest number of looks that is counted
abbrev pub look_limit : ℕ
look_limit = 2 ^ 63 - 1

-- what is taken of a place
abbrev pub taken_in : WalkInputs → ℕ → TermValue
taken_in t = taken_given t.config.now.acls t.slots.now t.facts.now t.table.now

-- behind a term that matched, or did not
abbrev pub position_moved : Bool → Position → Position
position_moved hit spot = record spot {
  line = line_moved hit spot.line spot.groups.list;
  term = term_moved hit spot.term spot.groups.list;
  groups = record { room = spot.groups.room; list = groups_moved hit spot.groups.list };
}

-- one look more
abbrev pub looked_more : Position → Position
looked_more spot = record spot { looks = min look_limit (spot.looks + 1) }

-- there is room for the groups of this configuration, and those that are open follow from each
-- other
pub record IsPosition (setup : Configuration) (spot : Position) : Type 0 where
  pub groups : AreOpen setup spot.groups.room spot.line spot.term spot.groups.list
  pub room : (acl : ℕ) → acl < length setup.acls
      → slice_index_or (nestings setup.acls) acl 0 ≤ spot.groups.room
  pub counted : spot.looks ≤ look_limit

-- what the rules come to from a place on
abbrev pub course_at : (ℕ → TermValue) → Configuration → Position → Course
course_at taken setup spot = ahead taken setup spot.line spot.term spot.groups.list

-- From one place to another with so many looks: the rules come to the same, and by as many looks
-- less, whatever is given from now on.
pub record Goes (taken : ℕ → TermValue) (setup : Configuration) (old new : Position)
    (before after : ℕ) : Type 0 where
  pub looked : ℕ
  pub counts : after ≡ before + looked
  pub looks : new.looks ≡ min look_limit (old.looks + looked)
  pub value : (more : ℕ → TermValue) → Extends taken more
      → (course_at more setup new).value ≡ (course_at more setup old).value
  pub leaves_are : (more : ℕ → TermValue) → Extends taken more
      → leaves setup.acls (course_at more setup old).walk ≡ looked
      + leaves setup.acls (course_at more setup new).walk

-- what is next at a place
abbrev pub next_of : Configuration → Position → Next
next_of setup spot = next_at (lines_on setup spot.groups.list) (line_on spot.line spot.groups.list)
    (term_on spot.term spot.groups.list)

-- the places that count what is next can be counted on
pub record IsSmall (spot : Position) : Type 0 where
  pub line : line_on spot.line spot.groups.list + 1 < 2 ^ 64
  pub term : term_on spot.term spot.groups.list + 1 < 2 ^ 64

-- this term is next
pub record IsNext (setup : Configuration) (spot : Position) (term : Term) : Type 0 where
  pub config : IsConfiguration setup
  pub position : IsPosition setup spot
  pub next_is : next_of setup spot ≡ next.Term term
  pub small : IsSmall spot
  pub before : term.acl < bound_on setup spot.groups.list
  pub there : term.acl < length setup.acls
  pub rule : spot.line < length setup.rules

-- one step: it leads on, and less is left
pub record IsStep (taken : ℕ → TermValue) (setup : Configuration) (old new : Position)
    (before after : ℕ) : Type 0 where
  pub goes : Goes taken setup old new before after
  pub stands : IsPosition setup new
  pub falls : weight_at setup new < weight_at setup old

-- the acl of the term that is next, if one is
abbrev pub acl_next : Next → Option ℕ
acl_next (next.Term t) = Some t.acl
acl_next next.Held = None
acl_next next.Failed = None

-- from a place on no leaf acl is left in the walk, as long as nothing is given for the acl that is
-- needed, if one is
abbrev pub NoneLeft : (ℕ → TermValue) → Configuration → Position → Option ℕ → Type 0
NoneLeft taken setup spot need = (more : ℕ → TermValue) → Extends taken more
    → still_needed more need ≡ true → leaves setup.acls (course_at more setup spot).walk ≡ 0

-- the acl that had a fault, if that decided, is the next one at a place, and the fault is its value
abbrev pub FaultIs : (ℕ → TermValue) → Configuration → Position → Ran → Type 0
FaultIs taken setup spot (ran.Verdict allow (place.Fault rule acl cause)) =
    (acl_next (next_of setup spot) ≡ Some acl) × (taken acl ≡ Fault acl cause)
FaultIs taken setup spot (ran.Verdict allow (place.Rule rule)) = Unit {0}
FaultIs taken setup spot (ran.Verdict allow place.Default) = Unit {0}
FaultIs taken setup spot (ran.Verdict allow place.Empty) = Unit {0}
FaultIs taken setup spot (ran.Need acl) = Unit {0}

-- a run is over at a place: what the rules come to is known there
pub record IsStop (taken : ℕ → TermValue) (setup : Configuration) (spot : Position) (result : Ran)
    : Type 0 where
  pub ran : ran_value setup.acls result ≡ (course_at taken setup spot).value
  pub none_left : NoneLeft taken setup spot (needed_by result)
  pub fault_is : FaultIs taken setup spot result

-- a run is over, the place stays, and nothing is looked at
pub record Stops (taken : ℕ → TermValue) (setup : Configuration) (old new : Position)
    (before after : ℕ) (result : Ran) : Type 0 where
  pub stays : new ≡ old
  pub quiet : after ≡ before
  pub is : IsStop taken setup old result

-- the acl that is needed asks a helper, and no value was given for it
abbrev pub Asks : List Acl → List ℕ → List (Option Given) → Option ℕ → Type 0
Asks acls slots table need = (acl : ℕ) → need ≡ Some acl
    → (is_external_at acls acl ≡ true) × (given_at slots table acl ≡ None)
