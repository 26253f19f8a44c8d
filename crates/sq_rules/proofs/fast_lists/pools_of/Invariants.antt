use Rattle.std.proofs.Common.{◌≡◌, ◌+◌, length, true}
use Rattle.std.specs.List.{list_all}
use Rattle.sq_rules.specs.Building.{pools_made}
use Rattle.sq_rules.specs.Configurations.{is_pool}
use Rattle.sq_rules.proofs.MadeLaws.{pools_behind}
use Rattle.sq_rules.proofs.fast_lists.pools_of.Given as goal

abbrev pub invariant-loop-part : goal.invariant-loop-part
invariant-loop-part l = record {
  made : pools_behind l.acls l.pools l.part-iterator.rest.items ≡ pools_made l.acls 0 l.fn.parts;
  count : length l.pools + length l.part-iterator.rest.items ≡ length l.fn.parts;
  are_pools : list_all (is_pool l.acls) l.pools ≡ true;
}
