-- In the statement: docs/STATEMENT.md lists which definitions.
-- The values of terms and rules, where those of leaf acls and of external acls are taken from
-- elsewhere (configuration reference, `acl`: types external, any-of and all-of).
use Rattle.std.specs.Prelude.{ℕ, zero, suc, List, [], ◌∷◌, Bool, true, false, ◌&&◌, ◌==◌, if◌then◌else◌, map, Some, None, slice_get, bytes_eq}
use Rattle.std.specs.declared.option.Option.{Option}
use Rattle.sq_base.specs.declared.helpers.Answer.{Answer}
use Rattle.sq_base.specs.declared.helpers.What.{What}
use Rattle.sq_base.specs.declared.helpers.What.TheVariants as what
use Rattle.sq_rules.specs.declared.configs.Acl.{Acl}
use Rattle.sq_rules.specs.declared.configs.Body.{Body}
use Rattle.sq_rules.specs.declared.configs.Body.TheVariants as body
use Rattle.sq_rules.specs.declared.configs.Rule.{Rule}
use Rattle.sq_rules.specs.declared.configs.Term.{Term}
use Rattle.sq_rules.specs.declared.sights.Sight.{Sight}
use Rattle.sq_rules.specs.declared.values.TermValue.{TermValue}
use Rattle.sq_rules.specs.declared.values.TermValue.TheVariants.{Hit, Miss, Fault, Need}
use Rattle.sq_rules.specs.Configurations.{Configuration}
use Rattle.sq_rules.specs.Keys.{key_text}
use Rattle.sq_rules.specs.Leaves.{holds}

-- what holds is a match
abbrev pub value_if : Bool → TermValue
value_if true = Hit
value_if false = Miss

-- `!` exchanges a match and a mismatch; a fault and a need are neither
abbrev pub negated : TermValue → TermValue
negated Hit = Miss
negated Miss = Hit
negated (Fault acl cause) = Fault acl cause
negated (Need acl key) = Need acl key

-- a value, turned round under `!`
abbrev pub turned : Bool → TermValue → TermValue
turned true v = negated v
turned false v = v

-- the first value that is no match, or a match
abbrev pub both : List TermValue → TermValue
both [] = Hit
both (Hit ∷ values) = both values
both (Miss ∷ values) = Miss
both (Fault acl cause ∷ values) = Fault acl cause
both (Need acl key ∷ values) = Need acl key

-- the first value that is no mismatch, or a mismatch
abbrev pub either : List TermValue → TermValue
either [] = Miss
either (Hit ∷ values) = Hit
either (Miss ∷ values) = either values
either (Fault acl cause ∷ values) = Fault acl cause
either (Need acl key ∷ values) = Need acl key

-- the value of an acl at a place, over those of its members: some member of any-of, all members of
-- some line of all-of
abbrev pub body_value : (ℕ → TermValue) → (Term → TermValue) → ℕ → Body → TermValue
body_value taken member place (body.Leaf l) = taken place
body_value taken member place (body.External class arguments) = taken place
body_value taken member place (body.AnyOf terms) = either (map member terms)
body_value taken member place (body.AllOf lines) = either (map (λ l. both (map member l)) lines)

-- where no acl stands, nothing matches
abbrev pub acl_value : (ℕ → TermValue) → (Term → TermValue) → ℕ → Option Acl → TermValue
acl_value taken member place None = Miss
acl_value taken member place (Some a) = body_value taken member place a.body

-- the value of a member of an acl with so many acls before it, since members stand before their
-- group
abbrev pub member_value : (ℕ → TermValue) → List Acl → ℕ → Term → TermValue
member_value taken acls zero t = Miss
member_value taken acls (suc before) t = turned t.negated
    (acl_value taken (member_value taken acls before) t.acl (slice_get acls t.acl))

-- the value of a term
abbrev pub term_value : (ℕ → TermValue) → List Acl → Term → TermValue
term_value taken acls t = turned t.negated
    (acl_value taken (member_value taken acls t.acl) t.acl (slice_get acls t.acl))

-- the value of a rule: its terms from left to right
abbrev pub rule_value : (ℕ → TermValue) → List Acl → Rule → TermValue
rule_value taken acls r = both (map (term_value taken acls) r.terms)

-- the answer for a class and key, among some that are distinct in these
abbrev pub answer_for : List Answer → ℕ → List ℕ → Option What
answer_for [] class key = None
answer_for (a ∷ answers) class key = if (a.class == class) && bytes_eq a.key key then Some a.what
    else answer_for answers class key

-- OK is a match, ERR is a mismatch, and without an answer one is needed
abbrev pub answer_value : ℕ → List ℕ → Option What → TermValue
answer_value acl key None = Need acl key
answer_value acl key (Some (what.Yes pairs)) = Hit
answer_value acl key (Some (what.No pairs)) = Miss
answer_value acl key (Some (what.Fault cause)) = Fault acl cause

-- the value of a leaf acl is its fact, that of an external acl its answer; a group has its value
-- from its members
abbrev pub taken_of_body : Configuration → Sight → List Answer → ℕ → Body → TermValue
taken_of_body c s answers place (body.Leaf l) = value_if (holds l s)
taken_of_body c s answers place (body.External class arguments) =
    answer_value place (key_text c place s) (answer_for answers class (key_text c place s))
taken_of_body c s answers place (body.AnyOf terms) = Miss
taken_of_body c s answers place (body.AllOf lines) = Miss

-- the value of an acl, if it is there; else it does not hold
abbrev pub taken_of_acl : Configuration → Sight → List Answer → ℕ → Option Acl → TermValue
taken_of_acl c s answers place None = Miss
taken_of_acl c s answers place (Some a) = taken_of_body c s answers place a.body

-- what is taken at a place
abbrev pub taken_at : Configuration → Sight → List Answer → ℕ → TermValue
taken_at c s answers place = taken_of_acl c s answers place (slice_get c.acls place)
