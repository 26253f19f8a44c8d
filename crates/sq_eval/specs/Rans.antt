-- What rules came to, before names and texts are copied.
use Rattle.std.specs.Prelude.{ℕ, List, Bool, false, Some, None, slice_get}
use Rattle.std.specs.declared.option.Option.{Option}
use Rattle.sq_rules.specs.Verdicts.{name_of}
use Rattle.sq_rules.specs.declared.configs.Acl.{Acl}
use Rattle.sq_rules.specs.declared.configs.Rule.{Rule}
use Rattle.sq_rules.specs.declared.outcomes.Why.TheVariants as why
use Rattle.sq_rules.specs.declared.values.TermValue.{TermValue}
use Rattle.sq_rules.specs.declared.values.TermValue.TheVariants.{Hit, Miss, Fault, Need}
use Rattle.sq_rules.specs.declared.values.Value.{Value}
use Rattle.sq_rules.specs.declared.values.Value.TheVariants as value
use Rattle.sq_eval.specs.declared.rules.RulesResult.{RulesResult}
use Rattle.sq_eval.specs.declared.rules.RulesResult.TheVariants as ran

-- the verdict or the need, over these acls
abbrev pub ran_value : List Acl → RulesResult → Value
ran_value acls (ran.Rule rule allow) = value.Verdict (record { allow = allow; why = why.Rule rule })
ran_value acls (ran.Default allow) = value.Verdict (record { allow = allow; why = why.Default })
ran_value acls ran.Empty = value.Verdict (record { allow = false; why = why.Empty })
ran_value acls (ran.Fault rule acl cause) = value.Verdict
    (record { allow = false; why = why.Fault rule (name_of (slice_get acls acl)) cause })
ran_value acls (ran.Need acl key) = value.Need acl key

-- what was decided, or else what the rest comes to
abbrev pub shown_or : List Acl → Option RulesResult → Value → Value
shown_or acls None rest = rest
shown_or acls (Some r) rest = ran_value acls r

-- the number of the rule that decided, if one did
abbrev pub rule_of : RulesResult → ℕ
rule_of (ran.Rule rule allow) = rule
rule_of (ran.Fault rule acl cause) = rule
rule_of (ran.Default allow) = 0
rule_of ran.Empty = 0
rule_of (ran.Need acl key) = 0

-- whether a rule with this value allows, if it decides
abbrev pub shown_as : Rule → TermValue → Option Bool
shown_as r Hit = Some r.allow
shown_as r Miss = None
shown_as r (Fault acl cause) = Some false
shown_as r (Need acl key) = Some false
