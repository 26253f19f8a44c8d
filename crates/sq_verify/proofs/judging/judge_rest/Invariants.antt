use Rattle.std.proofs.Common.{◌≡◌, ◌+◌, ◌-◌, ◌≤◌, List}
use Rattle.std.specs.Io.KnownBytes.{prepend_known}
use Rattle.sq_outside.specs.SourceLines.{lines, total_limit}
use Rattle.sq_rules.specs.Configurations.{Configuration}
use Rattle.sq_machine.specs.Entries.{History}
use Rattle.sq_verify.specs.Promised.{Going, Stands, StaysKnown, journal_spot}
use Rattle.sq_verify.specs.Judging.{judged_lines}
use Rattle.sq_verify.proofs.judging.judge_rest.Given as goal

-- the lines so far are the machine's, what is left comes to the whole, and no read failed
abbrev pub invariant-lines : goal.invariant-lines
invariant-lines g l =
    let left = g.S.Source.left in
    let machine = g.M.Player.machine in
    record {
      place_fits : l.place ≤ total_limit;
      count_fits : l.count ≤ l.place + 1;
      quiet : g.S.Source.faults l.journal ≡ g.S.Source.faults l.fn.journal;
      known : StaysKnown (prepend_known l.fn.held (left l.fn.journal)) (prepend_known l.held (left l.journal));
      goes : (configs : List Configuration) (h : History) → Stands (machine l.fn.machine) 1 1 configs h
          → Going (machine l.machine) l.fn.version (prepend_known l.fn.held (left l.fn.journal))
          (prepend_known l.held (left l.journal)) configs h
          (λ bytes. judged_lines l.fn.version configs h l.fn.place (lines bytes))
          (journal_spot l.count l.epoch l.place);
    }

abbrev pub decreases-lines : goal.decreases-lines
decreases-lines g l = total_limit - l.place
