-- What the code finds of the fields of one name.
use Rattle.std.specs.Prelude.{◌≡◌, ℕ, ◌≤◌, List, [], ◌∷◌, length, Some, None}
use Rattle.std.specs.Borrow.{Bor}
use Rattle.std.specs.declared.option.Option.{Option}
use Rattle.sq_message.specs.FieldNames.{elements}
use Rattle.sq_message.specs.declared.elements.Elements.{Elements}
use Rattle.sq_message.specs.declared.values.Values.{Values}
use Rattle.sq_message.specs.declared.values.Values.TheVariants.{Absent, One, Many}

-- these are the values
abbrev pub AreValues : Values → List (List ℕ) → Type 0
AreValues Absent values = values ≡ []
AreValues (One v) values = values ≡ v.now ∷ []
AreValues Many values = 2 ≤ length values

-- the elements of what is left of a list, if anything is
abbrev pub elements_of_rest : Option (Bor (List ℕ)) → List (List ℕ)
elements_of_rest None = []
elements_of_rest (Some rest) = elements rest.now

-- the elements that are still to come
abbrev pub elements_left : Elements → List (List ℕ)
elements_left e = elements_of_rest e.rest
