use Rattle.std.proofs.Common.{◌≡◌, true, false, length}
use Rattle.sq_rules.specs.Building.{each_made, fast_term_made}
use Rattle.sq_rules.specs.Configurations.{are_known, slow_ones, some_slow}
use Rattle.sq_rules.proofs.MadeLaws.{made_behind}
use Rattle.sq_rules.proofs.fast_lists.fast_terms_of.Given as goal

abbrev pub invariant-loop-part : goal.invariant-loop-part
invariant-loop-part l = record {
  made : made_behind (fast_term_made l.acls) l.terms l.part-iterator.rest.items
      ≡ each_made (fast_term_made l.acls) l.fn.parts;
  known : are_known (length l.acls) l.terms ≡ true;
  fast : some_slow (slow_ones l.acls) l.terms ≡ false;
}
