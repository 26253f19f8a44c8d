use Rattle.std.proofs.Common.{◌≡◌, ◌+◌, ◌≤◌, List}
use Rattle.sq_rules.specs.Configurations.{Configuration}
use Rattle.sq_machine.specs.Entries.{History}
use Rattle.sq_replay.specs.MachineViews.{machine_of}
use Rattle.sq_replay.specs.Runs.{Is}
use Rattle.sq_commands.specs.Summaries.{counted, total}
use Rattle.sq_commands.proofs.LoopLaws.{Going}
use Rattle.sq_commands.proofs.rehearsals.drive.Given as goal

-- the turns that are left come to the end of all, and each counts one at most
abbrev pub invariant-turns : goal.invariant-turns
invariant-turns l = record {
  room : total l.summary + l.left ≤ total l.fn.summary + l.fn.turns;
  goes : (configs : List Configuration) (h : History) → Is (machine_of l.fn.machine) configs h
      → l.fn.summary ≡ counted h
      → Going configs h l.fn.turns l.fn.driver (machine_of l.machine) l.summary l.driver l.left;
}

abbrev pub decreases-turns : goal.decreases-turns
decreases-turns l = l.left
