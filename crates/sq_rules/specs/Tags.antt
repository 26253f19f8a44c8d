-- In the statement: docs/STATEMENT.md lists which definitions.
-- The tag of a check: the name that a helper gives its customer (helper protocol, `tag=`).
use Rattle.std.specs.Prelude.{ℕ, List, [], ◌∷◌, find, Some, None, slice_get, bytes_eq, codes}
use Rattle.std.specs.Option.{option_map, option_or}
use Rattle.std.specs.declared.option.Option.{Option}
use Rattle.sq_base.specs.declared.helpers.Answer.{Answer}
use Rattle.sq_base.specs.declared.helpers.Pair.{Pair}
use Rattle.sq_base.specs.declared.helpers.What.{What}
use Rattle.sq_base.specs.declared.helpers.What.TheVariants as what
use Rattle.sq_rules.specs.declared.configs.Acl.{Acl}
use Rattle.sq_rules.specs.declared.configs.Body.{Body}
use Rattle.sq_rules.specs.declared.configs.Body.TheVariants as body
use Rattle.sq_rules.specs.declared.sights.Sight.{Sight}
use Rattle.sq_rules.specs.Configurations.{Configuration}
use Rattle.sq_rules.specs.Keys.{key_text}
use Rattle.sq_rules.specs.Values.{answer_for}
use Rattle.sq_rules.specs.Walks.{walk_over}

-- the value of the first pair `tag`
abbrev pub tag_pair : List Pair → Option (List ℕ)
tag_pair pairs = option_map (λ p. p.value) (find (λ p. bytes_eq p.key (codes "tag")) pairs)

-- OK and ERR may have a tag, a fault has none
abbrev pub tag_in : Option What → Option (List ℕ)
tag_in None = None
tag_in (Some (what.Yes pairs)) = tag_pair pairs
tag_in (Some (what.No pairs)) = tag_pair pairs
tag_in (Some (what.Fault cause)) = None

-- an external acl has the tag of its answer
abbrev pub tag_of_body : Configuration → Sight → List Answer → ℕ → Body → Option (List ℕ)
tag_of_body c s answers place (body.Leaf l) = None
tag_of_body c s answers place (body.External class arguments) =
    tag_in (answer_for answers class (key_text c place s))
tag_of_body c s answers place (body.AnyOf terms) = None
tag_of_body c s answers place (body.AllOf lines) = None

-- the tag that an acl gives, if it is there
abbrev pub tag_of_acl : Configuration → Sight → List Answer → ℕ → Option Acl → Option (List ℕ)
tag_of_acl c s answers place None = None
tag_of_acl c s answers place (Some a) = tag_of_body c s answers place a.body

-- the tag that the acl at this place gives
abbrev pub tag_at : Configuration → Sight → List Answer → ℕ → Option (List ℕ)
tag_at c s answers place = tag_of_acl c s answers place (slice_get c.acls place)

-- the first tag of the acls at these places
abbrev pub first_tag : (ℕ → Option (List ℕ)) → List ℕ → Option (List ℕ)
first_tag tag [] = None
first_tag tag (place ∷ places) = option_or (tag place) (first_tag tag places)

-- the tag of a check: that of the first external term of its walk whose answer is OK or ERR and has
-- one
abbrev pub tag_of : Configuration → Sight → List Answer → Option (List ℕ)
tag_of c s answers = first_tag (tag_at c s answers) (walk_over answers c s)
