use Rattle.std.proofs.Common.{◌≡◌, ℕ, List, Option}
use Rattle.sq_rules.specs.Configurations.{Configuration}
use Rattle.sq_machine.specs.Entries.{History}
use Rattle.sq_replay.specs.Dues.{dues_in}
use Rattle.sq_replay.specs.MachineViews.{machine_of}
use Rattle.sq_replay.specs.Runs.{At, Reached}
use Rattle.sq_replay.proofs.entering.write_acts.Given as goal

-- the acts go on to the same end, and what was made is written
abbrev pub invariant-acts : goal.invariant-acts
invariant-acts g l =
    let contents = g.O.Sink.contents in
    record {
      quiet : g.O.Sink.faults l.out ≡ g.O.Sink.faults l.fn.out;
      reached : (base : Option (List ℕ)) (configs : List Configuration) (h : History)
          → At (machine_of l.fn.machine) base (contents l.fn.out) l.fn.page.items configs h
          → Reached (machine_of l.machine) base (contents l.out) l.page.items configs h;
    }

abbrev pub decreases-acts : goal.decreases-acts
decreases-acts g l = dues_in (machine_of l.machine).state
