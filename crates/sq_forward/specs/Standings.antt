-- How far the rules for a field have come.
use Rattle.std.specs.Prelude.{◌≡◌, ℕ, List, [], ◌∷◌, Bool, true, not, All, Some, None, IfSome, unwrap_or, codes}
use Rattle.std.specs.BTreeMap.{is_at}
use Rattle.std.specs.Cmp.Lexicographic.{slice_cmp}
use Rattle.std.specs.Map.{lookup}
use Rattle.std.specs.Ordering.{nat_cmp}
use Rattle.std.specs.Str.{str_to_ascii_lowercase}
use Rattle.std.specs.declared.option.Option.{Option}
use Rattle.sq_eval.specs.Takings.{fact_taken}
use Rattle.sq_forward.specs.Access.{allowed_by}
use Rattle.sq_forward.specs.declared.deciding.DecidedName.{DecidedName}
use Rattle.sq_forward.specs.declared.standing.Standing.{Standing}
use Rattle.sq_forward.specs.declared.standing.Standing.TheVariants.{Unnamed, Open, Decided}
use Rattle.sq_rules.specs.Configurations.{Configuration}
use Rattle.sq_rules.specs.Values.{rule_value}
use Rattle.sq_rules.specs.Verdicts.{decided, outcome_so_far, rules_for}
use Rattle.sq_rules.specs.declared.configs.Acl.{Acl}
use Rattle.sq_rules.specs.declared.configs.Rule.{Rule}
use Rattle.sq_rules.specs.declared.headers.HeaderRule.{HeaderRule}
use Rattle.sq_rules.specs.declared.outcomes.Why.TheVariants as why
use Rattle.sq_rules.specs.declared.values.TermValue.{TermValue}
use Rattle.sq_rules.specs.declared.values.Value.{Value}
use Rattle.sq_rules.specs.declared.values.Value.TheVariants as value

-- an outcome that allows, or one that does not
abbrev pub so : Bool → Value
so allow = value.Verdict (record { allow = allow; why = why.Default })

-- what the rules come to, where this holds if none matches
abbrev pub comes_to : (ℕ → TermValue) → List Acl → Bool → List Rule → Bool
comes_to taken acls default [] = default
comes_to taken acls default (r ∷ rules) =
    (outcome_so_far (decided acls 0 r (rule_value taken acls r)
    (so (comes_to taken acls (not r.allow) rules)))).allow

-- what rules come to of which the last ones are still to come; nothing, where there is none
abbrev pub settled : (ℕ → TermValue) → List Acl → Standing → List Rule → Option Bool
settled taken acls Unnamed [] = None
settled taken acls Unnamed (r ∷ rules) = Some (comes_to taken acls true (r ∷ rules))
settled taken acls (Open default) rules = Some (comes_to taken acls default rules)
settled taken acls (Decided allow) rules = Some allow

-- what the rules for all fields come to
abbrev pub others_allowed : Configuration → List Bool → Bool → Bool
others_allowed c facts reply = unwrap_or
    (settled (fact_taken facts) c.acls Unnamed (rules_for reply (codes "all") c.headers)) true

-- what stands at a key
abbrev pub standing_at : List (List ℕ × Standing) → List ℕ → Option Standing
standing_at table key = lookup (is_at (slice_cmp nat_cmp key)) table

-- each standing is that of the rules for its name, of which these are still to come
abbrev pub AreStandings : (ℕ → TermValue) → List Acl → Bool → List HeaderRule → List HeaderRule
    → List (List ℕ × Standing) → Type 0
AreStandings taken acls reply headers rest table =
    (name : List ℕ) → IfSome (standing_at table (str_to_ascii_lowercase name))
    (λ s. settled taken acls s (rules_for reply name rest)
    ≡ settled taken acls Unnamed (rules_for reply name headers))

-- what was decided of names is right
abbrev pub AreDecided : Configuration → List Bool → Bool → List DecidedName → Type 0
AreDecided c facts reply names = All (λ d. d.allowed ≡ allowed_by c facts reply d.name.now) names
