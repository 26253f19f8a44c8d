use Rattle.std.proofs.Common.{◌≡◌, ◌+◌, length, true}
use Rattle.std.specs.List.{list_all}
use Rattle.sq_rules.specs.Building.{each_made, header_made}
use Rattle.sq_rules.specs.Configurations.{is_header, is_lower}
use Rattle.sq_rules.proofs.MadeLaws.{made_behind}
use Rattle.sq_rules.proofs.fast_lists.headers_of.Given as goal

abbrev pub invariant-loop-part : goal.invariant-loop-part
invariant-loop-part l = record {
  made : made_behind (header_made l.acls) l.headers l.part-iterator.rest.items
      ≡ each_made (header_made l.acls) l.fn.parts;
  count : length l.headers + length l.part-iterator.rest.items ≡ length l.fn.parts;
  are_headers : list_all (is_header l.acls) l.headers ≡ true;
  lower : list_all is_lower l.headers ≡ true;
}
