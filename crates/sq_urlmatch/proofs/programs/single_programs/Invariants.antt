use Rattle.std.proofs.Common.{◌≡◌, drop, take, true}
use Rattle.std.specs.List.{list_all}
use Rattle.sq_rules.specs.Patterns.{is_pattern}
use Rattle.sq_urlmatch.specs.Found.{FindSome}
use Rattle.sq_urlmatch.proofs.programs.single_programs.Given as goal

abbrev pub invariant-loop-find : goal.invariant-loop-find
invariant-loop-find l = record {
  found : FindSome (take l.find-index l.finds) l.programs.items;
  good : list_all is_pattern (drop l.find-index l.finds) ≡ true;
}
