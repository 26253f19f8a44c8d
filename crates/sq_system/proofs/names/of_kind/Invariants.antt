use Rattle.std.proofs.Common.{◌≡◌, ◌++◌, drop, filter}
use Rattle.sq_system.specs.Names.{is_kind}
use Rattle.sq_system.proofs.names.of_kind.Given as goal

-- those of the rest stand behind those that were found
abbrev pub invariant-loop-goal : goal.invariant-loop-goal
invariant-loop-goal l = l.kind ++ filter (is_kind l.v6 l.late) (drop l.goal-index l.goals)
    ≡ filter (is_kind l.v6 l.late) l.goals
