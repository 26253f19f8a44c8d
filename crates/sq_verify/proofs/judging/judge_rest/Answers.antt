use Rattle.std.proofs.Common.{◌+◌, ℕ, List, Err, Ok, arith, sym, subst, ◌∙◌}
use Rattle.std.specs.Io.KnownBytes.{prepend_known}
use Rattle.sq_outside.specs.SourceLines.{FindsWithin, Moves, lines}
use Rattle.sq_rules.specs.Configurations.{Configuration}
use Rattle.sq_machine.specs.Entries.{History}
use Rattle.sq_verify.specs.declared.findings.Finding.{Finding}
use Rattle.sq_verify.specs.JournalLines.{line_limit, noted_in}
use Rattle.sq_verify.specs.Judging.{judged_lines, stated_line}
use Rattle.sq_verify.specs.Promised.{Goes, IsNext, JudgesOver, Stands}
use Rattle.sq_verify.proofs.LoopLaws.{going_on, going_stop, stays_known}
use Rattle.sq_verify.proofs.judging.judge_rest.Goals as goal

pub returns-in-Err-clause-judges : goal.returns-in-Err-clause-judges
returns-in-Err-clause-judges g c = λ configs h s.
    let machine = g.M.Player.machine in
    let first = prepend_known c.args.held.now (g.S.Source.left c.args.journal.now) in
    let left = prepend_known c.lines.held (g.S.Source.left c.lines.journal) in
    let after = prepend_known c.journal_line.new.held (g.S.Source.left c.journal_line.new.journal) in
    let line = c.journal_line.new.line.items in
    let v = c.args.version in
    let stop = c.in-Err.halt in
    let judged : List ℕ → _ = λ bytes. judged_lines v configs h c.args.place (lines bytes) in
    subst (λ (f : Finding). JudgesOver first v configs h judged f) (sym c.halted-in-Err.ensures)
    (going_stop (machine c.lines.machine) (machine c.judge_line.new.machine) v first left after line configs h judged
    c.lines.count c.lines.epoch c.lines.place stop
    (subst (FindsWithin (line_limit v) c.lines.place left after line) c.in-Ok-Whole.field-0-is
    c.in-Ok-Whole.ensures.found)
    (subst (λ (l : List ℕ). (cs : List Configuration) (k : History)
    → Stands (machine c.lines.machine) c.lines.count c.lines.epoch cs k → IsNext cs k (noted_in v l)
    → Goes (machine c.judge_line.new.machine) (c.lines.count + 1) cs (stated_line v cs k l (noted_in v l))
    (Err stop)) c.as_slice.ensures.value c.in-Err.ensures.goes)
    (c.lines.invariant.goes configs h s))

pub lines-preserved : goal.lines-preserved
lines-preserved g c =
    let machine = g.M.Player.machine in
    let first = prepend_known c.args.held.now (g.S.Source.left c.args.journal.now) in
    let left = prepend_known c.lines.held (g.S.Source.left c.lines.journal) in
    let after = prepend_known c.journal_line.new.held (g.S.Source.left c.journal_line.new.journal) in
    let line = c.journal_line.new.line.items in
    let v = c.args.version in
    let found = subst (FindsWithin (line_limit v) c.lines.place left after line) c.in-Ok-Whole.field-0-is
    c.in-Ok-Whole.ensures.found in
    let moved = subst (Moves c.lines.place c.journal_line.new.place line) c.in-Ok-Whole.field-0-is
    c.in-Ok-Whole.ensures.place in
    record {
      place_fits = moved.1;
      count_fits = omega (arith, moved.0, c.lines.invariant.count_fits);
      quiet = c.in-Ok-Whole.ensures.cause.quiet ∙ c.lines.invariant.quiet;
      known = stays_known first left after (line_limit v) c.lines.place line found c.lines.invariant.known;
      goes = λ configs h s.
          going_on (machine c.lines.machine) (machine c.judge_line.new.machine) v first left after line configs h
          (λ bytes. judged_lines v configs h c.args.place (lines bytes)) c.lines.count c.lines.epoch c.lines.place
          c.in-Ok.next c.journal_line.new.place found moved.0
          (subst (λ (l : List ℕ). (cs : List Configuration) (k : History)
          → Stands (machine c.lines.machine) c.lines.count c.lines.epoch cs k → IsNext cs k (noted_in v l)
          → Goes (machine c.judge_line.new.machine) (c.lines.count + 1) cs (stated_line v cs k l (noted_in v l))
          (Ok c.in-Ok.next)) c.as_slice.ensures.value c.in-Ok.ensures.goes)
          (c.lines.invariant.goes configs h s);
    }
