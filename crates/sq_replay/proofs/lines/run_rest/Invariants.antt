use Rattle.std.proofs.Common.{◌≡◌, ℕ, ◌+◌, ◌-◌, ◌≤◌, List, Option, IfSome}
use Rattle.std.specs.Io.KnownBytes.{prepend_known}
use Rattle.sq_outside.specs.SourceLines.{lines, total_limit}
use Rattle.sq_rules.specs.Configurations.{Configuration}
use Rattle.sq_machine.specs.Entries.{History}
use Rattle.sq_replay.specs.MachineViews.{machine_of}
use Rattle.sq_replay.specs.Openings.{OpenedSoFar}
use Rattle.sq_replay.specs.Runs.{Adds, At, Going, paged, run_at, spot, told_files}
use Rattle.sq_replay.specs.RunText.{run_lines}
use Rattle.sq_replay.proofs.lines.run_rest.Given as goal

-- the lines so far are run, what is left runs to the whole, and no read or write failed
abbrev pub invariant-lines : goal.invariant-lines
invariant-lines g l =
    let left = g.S.Source.left in
    let contents = g.O.Sink.contents in
    let texts = g.F.Files.texts in
    let opened = g.F.Files.opened in
    record {
      place_fits : l.reader.place ≤ total_limit;
      number_fits : l.number ≤ l.reader.place + 2;
      script_quiet : g.S.Source.faults l.script ≡ g.S.Source.faults l.fn.script;
      files_quiet : g.F.Files.faults l.files ≡ g.F.Files.faults l.fn.files;
      out_quiet : g.O.Sink.faults l.out ≡ g.O.Sink.faults l.fn.out;
      texts_same : texts l.files ≡ texts l.fn.files;
      adds : Adds (opened l.fn.files) (opened l.files);
      opens : IfSome (prepend_known l.fn.reader.held (left l.fn.script))
          (λ bytes. OpenedSoFar 1 (lines bytes) (opened l.fn.files) (opened l.files)
          (prepend_known l.reader.held (left l.script))
          l.number);
      goes : (base : Option (List ℕ)) (configs : List Configuration) (h : History)
          → At (machine_of l.fn.machine) base (contents l.fn.out) l.fn.page.items configs h
          → Going (run_at (machine_of l.machine) (paged base (contents l.out) l.page.items))
          (told_files (texts l.fn.files) (opened l.fn.files) (opened l.files))
          (prepend_known l.fn.reader.held (left l.fn.script)) (prepend_known l.reader.held (left l.script)) configs h
          (λ shelf bytes. run_lines shelf configs h 2 l.fn.reader.place (lines bytes)) (spot l.number l.reader.place);
    }

abbrev pub decreases-lines : goal.decreases-lines
decreases-lines g l = total_limit - l.reader.place
