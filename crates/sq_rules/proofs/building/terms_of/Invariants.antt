use Rattle.std.proofs.Common.{◌≡◌, true, length}
use Rattle.sq_rules.specs.Building.{term_made, terms_made}
use Rattle.sq_rules.specs.Configurations.{are_known}
use Rattle.sq_rules.proofs.MadeLaws.{made_behind}
use Rattle.sq_rules.proofs.building.terms_of.Given as goal

abbrev pub invariant-loop-part : goal.invariant-loop-part
invariant-loop-part l = record {
  made : made_behind (term_made l.acls) l.terms l.part-iterator.rest.items ≡ terms_made l.acls l.fn.parts;
  known : are_known (length l.acls) l.terms ≡ true;
}
