use Rattle.std.proofs.Common.{◌≡◌, take, drop}
use Rattle.sq_urlmatch.specs.Found.{AreFoundAlike, first_bad}
use Rattle.sq_urlmatch.proofs.programs.trees_of.Given as goal

abbrev pub invariant-loop-place : goal.invariant-loop-place
invariant-loop-place l = record {
  alike : AreFoundAlike (take l.place l.finds) l.trees.items;
  good : first_bad l.place (drop l.place l.finds) ≡ first_bad 0 l.finds;
}
