-- Every verdict is an outcome that an entry may have: a denial by no rule, or by a fault.
use Rattle.std.proofs.Common.{◌≡◌, ℕ, ◌+◌, List, [], ◌∷◌, true, refl, subst}
use Rattle.sq_base.specs.declared.helpers.Answer.{Answer}
use Rattle.sq_rules.specs.declared.configs.Acl.{Acl}
use Rattle.sq_rules.specs.declared.configs.Rule.{Rule}
use Rattle.sq_rules.specs.declared.outcomes.Outcome.{Outcome}
use Rattle.sq_rules.specs.declared.sights.Sight.{Sight}
use Rattle.sq_rules.specs.declared.values.TermValue.{TermValue}
use Rattle.sq_rules.specs.declared.values.TermValue.TheVariants as term
use Rattle.sq_rules.specs.declared.values.Value.{Value}
use Rattle.sq_rules.specs.declared.values.Value.TheVariants as value
use Rattle.sq_rules.specs.Configurations.{Configuration}
use Rattle.sq_machine.specs.Entries.{is_outcome}
use Rattle.sq_rules.specs.Values.{rule_value, taken_at}
use Rattle.sq_rules.specs.Verdicts.{decided, default_of, rules_from, verdict_over}

-- the value is no verdict, or one that an entry may have
abbrev IsSound : Value → Type 0
IsSound (value.Verdict o) = is_outcome o ≡ true
IsSound (value.Need acl key) = Unit {0}

default_sound : (rules : List Rule) → is_outcome (default_of rules) ≡ true
default_sound [] = refl
default_sound (r ∷ []) = refl
default_sound (r ∷ q ∷ rules) = default_sound (q ∷ rules)

decided_sound : (acls : List Acl) (number : ℕ) (r : Rule) (t : TermValue) (rest : Value) → IsSound rest
    → IsSound (decided acls number r t rest)
decided_sound acls number r term.Hit rest s = refl
decided_sound acls number r term.Miss rest s = s
decided_sound acls number r (term.Fault acl cause) rest s = refl
decided_sound acls number r (term.Need acl key) rest s = tt

rules_sound : (taken : ℕ → TermValue) (acls : List Acl) (default : Outcome) (number : ℕ) (rules : List Rule)
    → is_outcome default ≡ true → IsSound (rules_from taken acls default number rules)
rules_sound taken acls default number [] d = d
rules_sound taken acls default number (r ∷ rules) d =
    decided_sound acls number r (rule_value taken acls r) (rules_from taken acls default (number + 1) rules)
    (rules_sound taken acls default (number + 1) rules d)

-- what a check came to
pub verdict_sound : (answers : List Answer) (config : Configuration) (sight : Sight) (o : Outcome)
    → verdict_over answers config sight ≡ value.Verdict o → is_outcome o ≡ true
verdict_sound answers config sight o is = subst IsSound is
    (rules_sound (taken_at config sight answers) config.acls (default_of config.rules) 1 config.rules
    (default_sound config.rules))
