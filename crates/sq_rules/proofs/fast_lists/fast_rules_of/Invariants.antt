use Rattle.std.proofs.Common.{◌≡◌, true}
use Rattle.std.specs.List.{list_all}
use Rattle.sq_rules.specs.Building.{each_made, fast_rule_made}
use Rattle.sq_rules.specs.Configurations.{is_fast_rule}
use Rattle.sq_rules.proofs.MadeLaws.{made_behind}
use Rattle.sq_rules.proofs.fast_lists.fast_rules_of.Given as goal

abbrev pub invariant-loop-part : goal.invariant-loop-part
invariant-loop-part l = record {
  made : made_behind (fast_rule_made l.acls) l.rules l.part-iterator.rest.items
      ≡ each_made (fast_rule_made l.acls) l.fn.parts;
  fast : list_all (is_fast_rule l.acls) l.rules ≡ true;
}
