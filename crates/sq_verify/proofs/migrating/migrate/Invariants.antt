use Rattle.std.proofs.Common.{◌≡◌, ◌-◌, ◌≤◌, ℕ, List, [], IfSome}
use Rattle.std.specs.Io.KnownBytes.{prepend_known}
use Rattle.std.specs.declared.option.Option.{Option}
use Rattle.sq_outside.specs.SourceLines.{lines, total_limit}
use Rattle.sq_replay.specs.Runs.{Wrote}
use Rattle.sq_verify.specs.Migrating.{ReadSoFar, read_journal}
use Rattle.sq_verify.specs.Promised.{StaysKnown}
use Rattle.sq_verify.proofs.migrating.migrate.Given as goal

-- the lines so far are written as entries, or are on the page, what is left gives the whole with them,
-- and no read or write failed
abbrev pub invariant-lines : goal.invariant-lines
invariant-lines g l =
    let left = g.S.Source.left in
    let contents = g.O.Sink.contents in
    record {
      place_fits : l.place ≤ total_limit;
      count_fits : l.count ≤ l.place;
      journal_quiet : g.S.Source.faults l.journal ≡ g.S.Source.faults l.fn.journal;
      out_quiet : g.O.Sink.faults l.out ≡ g.O.Sink.faults l.fn.out;
      known : StaysKnown (left l.fn.journal) (prepend_known l.held (left l.journal));
      going : IfSome (left l.fn.journal)
          (λ bytes. (base : Option (List ℕ)) → Wrote base (contents l.fn.out) l.fn.page.items []
          → ReadSoFar base (prepend_known l.held (left l.journal)) (contents l.out) l.page.items l.count l.epoch l.place
          (read_journal (lines bytes)));
    }

abbrev pub decreases-lines : goal.decreases-lines
decreases-lines g l = total_limit - l.place
