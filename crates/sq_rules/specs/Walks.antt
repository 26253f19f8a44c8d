-- In the statement: docs/STATEMENT.md lists which definitions.
-- The walk of a check: which leaf and external acls its verdict takes the values of, up to what
-- decides.
use Rattle.std.specs.Prelude.{ℕ, zero, suc, List, [], ◌∷◌, ◌++◌, Bool, true, false, if◌then◌else◌, map, Some, None, slice_get}
use Rattle.std.specs.declared.option.Option.{Option}
use Rattle.sq_base.specs.declared.helpers.Answer.{Answer}
use Rattle.sq_rules.specs.declared.configs.Acl.{Acl}
use Rattle.sq_rules.specs.declared.configs.Body.{Body}
use Rattle.sq_rules.specs.declared.configs.Body.TheVariants as body
use Rattle.sq_rules.specs.declared.configs.Rule.{Rule}
use Rattle.sq_rules.specs.declared.configs.Term.{Term}
use Rattle.sq_rules.specs.declared.sights.Sight.{Sight}
use Rattle.sq_rules.specs.declared.values.TermValue.{TermValue}
use Rattle.sq_rules.specs.declared.values.TermValue.TheVariants.{Hit, Miss, Fault, Need}
use Rattle.sq_rules.specs.Configurations.{Configuration}
use Rattle.sq_rules.specs.Values.{both, member_value, rule_value, taken_at}

-- whether the value is a hit
abbrev pub is_hit : TermValue → Bool
is_hit Hit = true
is_hit Miss = false
is_hit (Fault acl cause) = false
is_hit (Need acl key) = false

-- whether the value is a miss
abbrev pub is_miss : TermValue → Bool
is_miss Miss = true
is_miss Hit = false
is_miss (Fault acl cause) = false
is_miss (Need acl key) = false

-- something with its value and its walk
pub record Seen : Type 0 where
  pub value : TermValue
  pub walk : List ℕ

-- the walks up to and with the first whose value does not go on
abbrev pub walk_while : (TermValue → Bool) → List Seen → List ℕ
walk_while goes_on [] = []
walk_while goes_on (x ∷ xs) = x.walk ++ (if goes_on x.value then walk_while goes_on xs else [])

-- a line of all-of goes on behind each match
abbrev pub line_seen : (Term → Seen) → List Term → Seen
line_seen member terms = record {
  value = both (map (λ t. (member t).value) terms);
  walk = walk_while is_hit (map member terms);
}

-- the walk of an acl at a place; any-of goes on behind each mismatch, and so does all-of with its
-- lines
abbrev pub body_walk : (Term → Seen) → ℕ → Body → List ℕ
body_walk member place (body.Leaf l) = place ∷ []
body_walk member place (body.External class arguments) = place ∷ []
body_walk member place (body.AnyOf terms) = walk_while is_miss (map member terms)
body_walk member place (body.AllOf lines) = walk_while is_miss (map (line_seen member) lines)

-- the acls whose values an acl takes, if it is there
abbrev pub acl_walk : (Term → Seen) → ℕ → Option Acl → List ℕ
acl_walk member place None = []
acl_walk member place (Some a) = body_walk member place a.body

-- a member of an acl with so many acls before it
abbrev pub member_walk : (ℕ → TermValue) → List Acl → ℕ → Term → List ℕ
member_walk taken acls zero t = []
member_walk taken acls (suc before) t =
    acl_walk (λ m. record {
      value = member_value taken acls before m;
      walk = member_walk taken acls before m;
    }) t.acl (slice_get acls t.acl)

-- a term, whose acl has as many acls before it as its place says
abbrev pub term_seen : (ℕ → TermValue) → List Acl → Term → Seen
term_seen taken acls t = record {
  value = member_value taken acls (suc t.acl) t;
  walk = member_walk taken acls (suc t.acl) t;
}

-- a rule: its terms from left to right, up to the first that is no match
abbrev pub rule_seen : (ℕ → TermValue) → List Acl → Rule → Seen
rule_seen taken acls r = record {
  value = rule_value taken acls r;
  walk = walk_while is_hit (map (term_seen taken acls) r.terms);
}

-- the walk of rules, up to the first that decides
abbrev pub rules_walk : (ℕ → TermValue) → List Acl → List Rule → List ℕ
rules_walk taken acls rules = walk_while is_miss (map (rule_seen taken acls) rules)

-- the places of the leaf and external acls whose values the verdict over these answers takes, in
-- order and with repeats
abbrev pub walk_over : List Answer → Configuration → Sight → List ℕ
walk_over answers c s = rules_walk (taken_at c s answers) c.acls c.rules
