-- The values that the frames of a check were given, by the answers that it has.
use Rattle.std.specs.Prelude.{◌≡◌, ◌≤◌, ℕ, ◌+◌, List, Bool, true, min, Some}
use Rattle.sq_base.specs.declared.helpers.Answer.{Answer}
use Rattle.sq_base.specs.declared.helpers.What.{What}
use Rattle.sq_base.specs.declared.helpers.What.TheVariants as what
use Rattle.sq_rules.specs.Configurations.{Configuration}
use Rattle.sq_rules.specs.Values.{taken_at}
use Rattle.sq_rules.specs.Walks.{walk_over}
use Rattle.sq_rules.specs.declared.sights.Sight.{Sight}
use Rattle.sq_rules.specs.declared.values.TermValue.{TermValue}
use Rattle.sq_rules.specs.declared.values.TermValue.TheVariants.{Need}
use Rattle.sq_checks.specs.Courses.{leaves}
use Rattle.sq_checks.specs.GivenValues.{given_value}
use Rattle.sq_checks.specs.Positions.{look_limit}
use Rattle.sq_checks.specs.Slots.{is_external_at}
use Rattle.sq_checks.specs.Standing.{IsOver, Standing, given_to}
use Rattle.sq_checks.specs.declared.answers.Given.{Given}
use Rattle.sq_checks.specs.declared.answers.Given.TheVariants as given
use Rattle.sq_checks.specs.declared.going.Found.{Found}
use Rattle.sq_checks.specs.declared.going.Found.TheVariants as found

-- what an external acl is given by an answer: OK is a match, ERR is none
abbrev pub given_by : What → Given
given_by (what.Yes pairs) = given.Hit
given_by (what.No pairs) = given.Miss
given_by (what.Fault cause) = given.Fault cause

-- the value of an external acl for which there is an answer, or the need of one
abbrev pub found_value : ℕ → Found → TermValue
found_value acl (found.Answered g) = given_value acl (Some g)
found_value acl (found.Open key) = Need acl key

-- what was given for an external acl is the value of the answer for its class and its key
abbrev pub AreGiven : Configuration → Sight → List Answer → Standing → Type 0
AreGiven config sight answers f =
    (acl : ℕ) (g : Given) → is_external_at config.acls acl ≡ true → given_to f acl ≡ Some g
    → taken_at config sight answers acl ≡ given_value acl (Some g)

-- frames at a place in the rules of a configuration over these facts, given what these answers give
pub record AreFrames (config : Configuration) (sight : Sight) (answers : List Answer)
    (facts : List Bool) (f : Standing) : Type 0 where
  pub config_is : f.config ≡ config
  pub over : IsOver facts f
  pub given : AreGiven config sight answers f

-- how many leaf acls the walk of the verdict over these answers has
abbrev pub leaves_over : List Answer → Configuration → Sight → ℕ
leaves_over answers c s = leaves c.acls (walk_over answers c s)

-- and how many of them are counted
abbrev pub looks_over : List Answer → Configuration → Sight → ℕ
looks_over answers c s = min look_limit (leaves_over answers c s)

-- so many looks by a counter, as many more by the number that is kept of them, and no more than the
-- most
pub record AreCounted (most before after old new : ℕ) : Type 0 where
  pub looked : ℕ
  pub few : looked ≤ most
  pub steps : after ≡ before + looked
  pub looks : new ≡ min look_limit (old + looked)
