use Rattle.std.proofs.Common.{◌≡◌, ◌+◌, true, length, drop}
use Rattle.std.specs.List.{list_all}
use Rattle.sq_rules.specs.Configurations.{is_known_rule}
use Rattle.sq_rules.specs.Verdicts.{default_of, rules_from}
use Rattle.sq_eval.specs.Takings.{acls_in, taken_in}
use Rattle.sq_eval.proofs.rules.first_rule.Given as goal

-- no rule so far decides, so the rest does
abbrev pub invariant-loop-rule : goal.invariant-loop-rule
invariant-loop-rule g l = record {
  rest : rules_from (taken_in l.taking) (acls_in l.taking) (default_of l.rules) l.number (drop l.rule-index l.rules)
      ≡ rules_from (taken_in l.taking) (acls_in l.taking) (default_of l.rules) 1 l.rules;
  known : list_all (is_known_rule (length (acls_in l.taking))) (drop l.rule-index l.rules) ≡ true;
  counted : l.number ≡ l.rule-index + 1;
}
