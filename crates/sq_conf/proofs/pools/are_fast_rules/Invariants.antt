use Rattle.std.proofs.Common.{◌≡◌, drop}
use Rattle.std.specs.List.{list_all}
use Rattle.sq_rules.specs.Drafts.{is_fast}
use Rattle.sq_conf.proofs.pools.are_fast_rules.Given as goal

abbrev pub invariant-loop-rule : goal.invariant-loop-rule
invariant-loop-rule l = list_all (is_fast l.slow) (drop l.rule-index l.rules) ≡ list_all (is_fast l.slow) l.rules
