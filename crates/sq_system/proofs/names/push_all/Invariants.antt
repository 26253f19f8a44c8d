use Rattle.std.proofs.Common.{◌≡◌, ◌++◌, drop}
use Rattle.sq_system.proofs.names.push_all.Given as goal

-- the rest stands behind what was put
abbrev pub invariant-loop-goal : goal.invariant-loop-goal
invariant-loop-goal l = l.order ++ drop l.goal-index l.goals ≡ l.fn.order ++ l.goals
