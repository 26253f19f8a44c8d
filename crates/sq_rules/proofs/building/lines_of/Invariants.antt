use Rattle.std.proofs.Common.{◌≡◌, true, length}
use Rattle.std.specs.List.{list_all}
use Rattle.sq_rules.specs.Building.{each_made, terms_made}
use Rattle.sq_rules.specs.Configurations.{are_known}
use Rattle.sq_rules.proofs.MadeLaws.{made_behind}
use Rattle.sq_rules.proofs.building.lines_of.Given as goal

abbrev pub invariant-loop-part : goal.invariant-loop-part
invariant-loop-part l = record {
  made : made_behind (terms_made l.acls) l.lines l.part-iterator.rest.items ≡ each_made (terms_made l.acls) l.fn.parts;
  known : list_all (are_known (length l.acls)) l.lines ≡ true;
}
