-- What the values of leaf acls and of external acls are taken from: the facts of a check, and the
-- values that were given.
use Rattle.std.specs.Prelude.{ℕ, suc, List, [], ◌∷◌, Bool, false, Some, None, slice_get, slice_index_or}
use Rattle.std.specs.declared.option.Option.{Option}
use Rattle.sq_rules.specs.Values.{value_if}
use Rattle.sq_rules.specs.Verdicts.{name_of}
use Rattle.sq_rules.specs.declared.configs.Acl.{Acl}
use Rattle.sq_rules.specs.declared.configs.Body.{Body}
use Rattle.sq_rules.specs.declared.configs.Body.TheVariants as body
use Rattle.sq_rules.specs.declared.outcomes.Why.{Why}
use Rattle.sq_rules.specs.declared.outcomes.Why.TheVariants as why
use Rattle.sq_rules.specs.declared.values.TermValue.{TermValue}
use Rattle.sq_rules.specs.declared.values.TermValue.TheVariants.{Hit, Miss, Fault, Need}
use Rattle.sq_rules.specs.declared.values.Value.{Value}
use Rattle.sq_rules.specs.declared.values.Value.TheVariants as value
use Rattle.sq_checks.specs.declared.answers.Given.{Given}
use Rattle.sq_checks.specs.declared.answers.Given.TheVariants as given
use Rattle.sq_checks.specs.declared.answers.Place.{Place}
use Rattle.sq_checks.specs.declared.answers.Place.TheVariants as place
use Rattle.sq_checks.specs.declared.answers.Ran.{Ran}
use Rattle.sq_checks.specs.declared.answers.Ran.TheVariants as ran

-- the value of an external acl by what was given for it; where nothing was, it is needed, and the
-- key is left open
abbrev pub given_value : ℕ → Option Given → TermValue
given_value acl None = Need acl []
given_value acl (Some given.Hit) = Hit
given_value acl (Some given.Miss) = Miss
given_value acl (Some (given.Fault cause)) = Fault acl cause

-- what stands in a slot
abbrev pub in_slot : List (Option Given) → Option ℕ → Option Given
in_slot table None = None
in_slot table (Some slot) = slice_index_or table slot None

-- what was given for the acl at a place
abbrev pub given_at : List ℕ → List (Option Given) → ℕ → Option Given
given_at slots table acl = in_slot table (slice_get slots acl)

abbrev pub taken_of_body : List Bool → Option Given → ℕ → Body → TermValue
taken_of_body facts g acl (body.Leaf l) = value_if (slice_index_or facts acl false)
taken_of_body facts g acl (body.External class arguments) = given_value acl g
taken_of_body facts g acl (body.AnyOf terms) = Miss
taken_of_body facts g acl (body.AllOf lines) = Miss

abbrev pub taken_of_acl : List Bool → Option Given → ℕ → Option Acl → TermValue
taken_of_acl facts g acl None = Miss
taken_of_acl facts g acl (Some a) = taken_of_body facts g acl a.body

-- what is taken at a place: of a leaf acl its fact, of an external acl the value that was given for
-- it
abbrev pub taken_given : List Acl → List ℕ → List Bool → List (Option Given) → ℕ → TermValue
taken_given acls slots facts table acl = taken_of_acl facts (given_at slots table acl) acl
    (slice_get acls acl)

-- why a run decided so, with the name of an acl that had a fault
abbrev pub why_of : List Acl → Place → Why
why_of acls (place.Rule rule) = why.Rule rule
why_of acls place.Default = why.Default
why_of acls place.Empty = why.Empty
why_of acls (place.Fault rule acl cause) = why.Fault rule (name_of (slice_get acls acl)) cause

-- what a run came to, over these acls
abbrev pub ran_value : List Acl → Ran → Value
ran_value acls (ran.Verdict allow p) = value.Verdict (record { allow = allow; why = why_of acls p })
ran_value acls (ran.Need acl) = value.Need acl []

-- the external acl that is needed, if one is
abbrev pub needed_by : Ran → Option ℕ
needed_by (ran.Verdict allow p) = None
needed_by (ran.Need acl) = Some acl

-- how many slots no value was given to
abbrev pub left_in : List (Option Given) → ℕ
left_in [] = 0
left_in (None ∷ table) = suc (left_in table)
left_in (Some g ∷ table) = left_in table
