use Rattle.std.proofs.Common.{◌≡◌, ◌++◌, length}
use Rattle.sq_system.specs.Names.{in_turns}
use Rattle.sq_system.proofs.names.push_in_turns.Given as goal

-- what is left stands behind what was put
abbrev pub invariant-loop-one : goal.invariant-loop-one
invariant-loop-one l = l.order ++ in_turns l.ones l.others ≡ l.fn.order ++ in_turns l.first l.second

abbrev pub decreases-loop-one : goal.decreases-loop-one
decreases-loop-one l = length l.ones
