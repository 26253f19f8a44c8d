use Rattle.std.proofs.Common.{◌≡◌, ◌+◌, true, length}
use Rattle.std.specs.List.{list_all}
use Rattle.sq_rules.specs.Building.{each_made, rule_made}
use Rattle.sq_rules.specs.Configurations.{is_known_rule}
use Rattle.sq_rules.proofs.MadeLaws.{made_behind}
use Rattle.sq_rules.proofs.building.rules_of.Given as goal

abbrev pub invariant-loop-part : goal.invariant-loop-part
invariant-loop-part l = record {
  made : made_behind (rule_made l.acls) l.rules l.part-iterator.rest.items ≡ each_made (rule_made l.acls) l.fn.parts;
  count : length l.rules + length l.part-iterator.rest.items ≡ length l.fn.parts;
  known : list_all (is_known_rule (length l.acls)) l.rules ≡ true;
}
