use Rattle.std.proofs.Common.{◌≡◌, ◌+◌, [], length, true}
use Rattle.sq_rules.specs.Building.{acls_made}
use Rattle.sq_rules.specs.Configurations.{are_known_bodies}
use Rattle.sq_rules.specs.Lookups.{unmade, unmade_acls}
use Rattle.sq_rules.proofs.building.acls_of.Given as goal

abbrev pub invariant-loop-part : goal.invariant-loop-part
invariant-loop-part l = record {
  made : acls_made l.classes l.acls l.part-iterator.rest.items ≡ acls_made l.classes [] l.fn.parts;
  count : length l.acls + length l.part-iterator.rest.items ≡ length l.fn.parts;
  unmade : unmade_acls l.acls + unmade (λ a. a.name) l.part-iterator.rest.items ≡ unmade (λ a. a.name) l.fn.parts;
  known : are_known_bodies (length l.classes) 0 l.acls ≡ true;
}
