-- In the statement: docs/STATEMENT.md lists which definitions.
-- The direct evaluation of a configuration over what a check sees and the answers of helpers that
-- it has (configuration reference, `http_access`, `delay_access`, `request_header_access` and
-- `reply_header_access`).
use Rattle.std.specs.Prelude.{ℕ, ◌+◌, suc, List, [], ◌∷◌, Bool, true, false, not, ◌&&◌, nat_le, if◌then◌else◌, Some, None, slice_get, codes}
use Rattle.std.specs.Str.{str_eq_ignore_ascii_case}
use Rattle.std.specs.declared.option.Option.{Option}
use Rattle.sq_base.specs.Addresses.{Address}
use Rattle.sq_base.specs.declared.helpers.Answer.{Answer}
use Rattle.sq_rules.specs.declared.configs.Acl.{Acl}
use Rattle.sq_rules.specs.declared.configs.Rule.{Rule}
use Rattle.sq_rules.specs.declared.headers.HeaderRule.{HeaderRule}
use Rattle.sq_rules.specs.declared.outcomes.Outcome.{Outcome}
use Rattle.sq_rules.specs.declared.outcomes.Why.{Why}
use Rattle.sq_rules.specs.declared.outcomes.Why.TheVariants as why
use Rattle.sq_rules.specs.declared.pools.Pool.{Pool}
use Rattle.sq_rules.specs.declared.sights.Sight.{Sight}
use Rattle.sq_rules.specs.declared.values.TermValue.{TermValue}
use Rattle.sq_rules.specs.declared.values.TermValue.TheVariants.{Hit, Miss, Fault, Need}
use Rattle.sq_rules.specs.declared.values.Value.{Value}
use Rattle.sq_rules.specs.declared.values.Value.TheVariants as value
use Rattle.sq_rules.specs.Configurations.{Configuration}
use Rattle.sq_rules.specs.Values.{rule_value, taken_at}

-- without a match the outcome is the opposite of the last rule, and without rules a denial
abbrev pub default_of : List Rule → Outcome
default_of [] = record { allow = false; why = why.Empty }
default_of (r ∷ []) = record { allow = not r.allow; why = why.Default }
default_of (r ∷ q ∷ rules) = default_of (q ∷ rules)

-- the name of an acl, by its place
abbrev pub name_of : Option Acl → List ℕ
name_of None = []
name_of (Some a) = a.name

-- a rule that matches decides, one that does not leaves it to the rest, a fault denies, and a need
-- is the whole answer
abbrev pub decided : List Acl → ℕ → Rule → TermValue → Value → Value
decided acls number r Hit rest = value.Verdict (record { allow = r.allow; why = why.Rule number })
decided acls number r Miss rest = rest
decided acls number r (Fault acl cause) rest = value.Verdict
    (record { allow = false; why = why.Fault number (name_of (slice_get acls acl)) cause })
decided acls number r (Need acl key) rest = value.Need acl key

-- what the rules from this number on come to, or the default
abbrev pub rules_from : (ℕ → TermValue) → List Acl → Outcome → ℕ → List Rule → Value
rules_from taken acls default number [] = value.Verdict default
rules_from taken acls default number (r ∷ rules) =
    decided acls number r (rule_value taken acls r)
    (rules_from taken acls default (number + 1) rules)

-- what a configuration comes to over these answers: the first rule that matches decides
abbrev pub verdict_over : List Answer → Configuration → Sight → Value
verdict_over answers c s = rules_from (taken_at c s answers) c.acls (default_of c.rules) 1 c.rules

-- an outcome by a rule or by the default; without rules a denial
abbrev pub is_plain_why : Bool → Why → Bool
is_plain_why allow (why.Rule number) = true
is_plain_why allow why.Default = true
is_plain_why allow why.Empty = not allow
is_plain_why allow (why.Fault number acl cause) = false

-- what is decided; where an answer is needed first, nothing is allowed
abbrev pub outcome_so_far : Value → Outcome
outcome_so_far (value.Verdict o) = o
outcome_so_far (value.Need acl key) = record { allow = false; why = why.Empty }

-- the verdict of a configuration without helpers: what it comes to over no answers
abbrev pub verdict : Configuration → Sight → Outcome
verdict c s = outcome_so_far (verdict_over [] c s)

-- a client with an IPv6 address passes over pools of class 2 and 3, whose buckets are by parts of
-- IPv4 addresses
abbrev pub is_passed_over : Address → Pool → Bool
is_passed_over a p = a.v6 && (nat_le 2 p.class && nat_le p.class 3)

-- rules allow, without helpers
abbrev pub rules_allow : (ℕ → TermValue) → List Acl → List Rule → Bool
rules_allow taken acls rules = (outcome_so_far
    (rules_from taken acls (default_of rules) 1 rules)).allow

-- the rules of a pool allow
abbrev pub is_in_pool : (ℕ → TermValue) → List Acl → Pool → Bool
is_in_pool taken acls p = rules_allow taken acls p.lists

-- the first pool that is not passed over and whose rules allow, where they stand from this place on
abbrev pub pool_from : (ℕ → TermValue) → List Acl → Address → ℕ → List Pool → Option ℕ
pool_from taken acls a place [] = None
pool_from taken acls a place (p ∷ pools) =
    if not (is_passed_over a p) && is_in_pool taken acls p then Some place
    else pool_from taken acls a (suc place) pools

-- the place of the pool of a check, if it has one
abbrev pub pool_of : Configuration → Sight → Option ℕ
pool_of c s = pool_from (taken_at c s []) c.acls s.addr 0 c.pools

abbrev pub is_same_way : Bool → Bool → Bool
is_same_way true b = b
is_same_way false b = not b

-- the rules for the fields of this name, of replies or of requests; names are compared without case
abbrev pub rules_for : Bool → List ℕ → List HeaderRule → List Rule
rules_for reply name [] = []
rules_for reply name (h ∷ headers) =
    if is_same_way h.reply reply && str_eq_ignore_ascii_case h.name name then h.rule
    ∷ rules_for reply name headers else rules_for reply name headers

-- the rules that decide of a field: those for its name, or else those for `All`
abbrev pub or_for_all : List Rule → List Rule → List Rule
or_for_all [] others = others
or_for_all (r ∷ rules) others = r ∷ rules

-- without rules a field is allowed
abbrev pub field_allowed : (ℕ → TermValue) → List Acl → List Rule → Bool
field_allowed taken acls [] = true
field_allowed taken acls (r ∷ rules) = rules_allow taken acls (r ∷ rules)

abbrev pub name_allowed_over : (ℕ → TermValue) → List Acl → List HeaderRule → Bool → List ℕ → Bool
name_allowed_over taken acls headers reply name = field_allowed taken acls
    (or_for_all (rules_for reply name headers) (rules_for reply (codes "all") headers))

-- a field of this name is passed on, of a reply or of a request
abbrev pub name_allowed : Configuration → Sight → Bool → List ℕ → Bool
name_allowed c s reply name = name_allowed_over (taken_at c s []) c.acls c.headers reply name
