use Rattle.std.proofs.Common.{◌≡◌, true, length, drop}
use Rattle.std.specs.List.{list_all}
use Rattle.sq_rules.specs.Configurations.{is_known_rule}
use Rattle.sq_checks.specs.Traces.{rules_tag}
use Rattle.sq_checks.proofs.tags.rules_tag.Given as goal

-- no rule so far decides or has a tag
abbrev pub invariant-loop-rule : goal.invariant-loop-rule
invariant-loop-rule g l = record {
  rest : rules_tag l.inputs (drop l.rule-index l.rules) ≡ rules_tag l.inputs l.rules;
  known : list_all (is_known_rule (length l.inputs.config.now.acls)) (drop l.rule-index l.rules) ≡ true;
}
