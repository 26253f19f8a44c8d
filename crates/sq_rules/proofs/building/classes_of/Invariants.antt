use Rattle.std.proofs.Common.{◌≡◌, ◌+◌, [], length}
use Rattle.sq_rules.specs.Building.{classes_made}
use Rattle.sq_rules.proofs.building.classes_of.Given as goal

abbrev pub invariant-loop-part : goal.invariant-loop-part
invariant-loop-part l = record {
  made : classes_made l.classes l.part-iterator.rest.items ≡ classes_made [] l.fn.parts;
  count : length l.classes + length l.part-iterator.rest.items ≡ length l.fn.parts;
}
