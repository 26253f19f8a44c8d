use Rattle.std.proofs.Common.{◌≡◌, ◌+◌, length, arith, refl, subst}
use Rattle.std.specs.Io.KnownBytes.{prepend_known}
use Rattle.sq_outside.specs.SourceLines.{Finds, Moves, lines}
use Rattle.sq_outside.specs.declared.lines.LineFound.TheVariants as found
use Rattle.sq_replay.specs.declared.ends.RunEnd.TheVariants as ends
use Rattle.sq_replay.proofs.BeginLaws.{faulty_script, lacking_script, none_script, not_held, stated_first, unread_script}
use Rattle.sq_replay.proofs.OpenedLaws.{none_first, none_opened, none_reached, script_opened, script_reached}
use Rattle.sq_replay.proofs.beginning.replay.Goals as goal

pub returns-in-Ok-End-clause-runs : goal.returns-in-Ok-End-clause-runs
returns-in-Ok-End-clause-runs g c = λ base w.
    let left = g.S.Source.left c.args.script.now in
    let after = prepend_known c.next_line.new.held (g.S.Source.left c.next_line.new.source) in
    let line = c.next_line.new.line.items in
    let found = subst (λ l. Finds 0 l after line found.End) (not_held c.in-Ok.held left c.in-Ok.ensures)
    (subst (Finds 0 (prepend_known c.in-Ok.held left) after line) c.in-Ok-End.field-0-is c.in-Ok-End.ensures.found) in
    none_script _ _ _ left after base _ _ line c.args.setup c.run_empty.result found
    (λ files. c.run_empty.ensures.runs base files w)

pub returns-in-Ok-Faulty-clause-runs : goal.returns-in-Ok-Faulty-clause-runs
returns-in-Ok-Faulty-clause-runs g c = λ base w.
    let left = g.S.Source.left c.args.script.now in
    let after = prepend_known c.next_line.new.held (g.S.Source.left c.next_line.new.source) in
    let line = c.next_line.new.line.items in
    let found = subst (λ l. Finds 0 l after line found.Faulty) (not_held c.in-Ok.held left c.in-Ok.ensures)
    (subst (Finds 0 (prepend_known c.in-Ok.held left) after line) c.in-Ok-Faulty.field-0-is
    c.in-Ok-Faulty.ensures.found) in
    faulty_script _ _ _ left after base _ _ line c.args.setup found w

pub returns-in-Err-Failed-clause-runs : goal.returns-in-Err-Failed-clause-runs
returns-in-Err-Failed-clause-runs g c = λ base w. unread_script _ _ _ _ base _ _ c.args.setup w

pub returns-in-Err-WantOfMemory-clause-runs : goal.returns-in-Err-WantOfMemory-clause-runs
returns-in-Err-WantOfMemory-clause-runs g c = λ base w. lacking_script _ _ _ _ base _ _ c.args.setup w

pub returns-clause-runs : goal.returns-clause-runs
returns-clause-runs g c = λ base w.
    let left = g.S.Source.left c.args.script.now in
    let after = prepend_known c.next_line.new.held (g.S.Source.left c.next_line.new.source) in
    let line = c.next_line.new.line.items in
    let found = subst (λ l. Finds 0 l after line found.Whole) (not_held c.in-Ok.held left c.in-Ok.ensures)
    (subst (Finds 0 (prepend_known c.in-Ok.held left) after line) c.in-Ok-Whole.field-0-is
    c.in-Ok-Whole.ensures.found) in
    let moved = subst (Moves 0 c.next_line.new.place line) c.in-Ok-Whole.field-0-is c.in-Ok-Whole.ensures.place in
    let place : c.next_line.new.place ≡ length line + 1 = omega (arith, moved.0) in
    stated_first _ _ _ left after base _ _ line c.as_slice.result.now c.args.setup c.next_line.new.place
    c.run_stated.result found c.as_slice.ensures.value place (c.run_stated.ensures.runs base w)

pub returns-in-Err-clause-opens : goal.returns-in-Err-clause-opens
returns-in-Err-clause-opens g c = none_first (g.F.Files.opened c.args.files.now) (g.F.Files.opened c.args.files.now)
    (g.S.Source.left c.args.script.now) lines ends.WantOfMemory refl (λ name. tt) (λ e. absurd (cc))

pub returns-in-Ok-End-clause-opens : goal.returns-in-Ok-End-clause-opens
returns-in-Ok-End-clause-opens g c =
    let left = g.S.Source.left c.args.script.now in
    let after = prepend_known c.next_line.new.held (g.S.Source.left c.next_line.new.source) in
    let line = c.next_line.new.line.items in
    let found = subst (λ l. Finds 0 l after line found.End) (not_held c.in-Ok.held left c.in-Ok.ensures)
    (subst (Finds 0 (prepend_known c.in-Ok.held left) after line) c.in-Ok-End.field-0-is c.in-Ok-End.ensures.found) in
    none_opened (g.F.Files.opened c.args.files.now) left after line c.run_empty.result found c.run_empty.ensures.end

pub returns-in-Ok-End-clause-reached : goal.returns-in-Ok-End-clause-reached
returns-in-Ok-End-clause-reached g c =
    let left = g.S.Source.left c.args.script.now in
    let after = prepend_known c.next_line.new.held (g.S.Source.left c.next_line.new.source) in
    let line = c.next_line.new.line.items in
    let found = subst (λ l. Finds 0 l after line found.End) (not_held c.in-Ok.held left c.in-Ok.ensures)
    (subst (Finds 0 (prepend_known c.in-Ok.held left) after line) c.in-Ok-End.field-0-is c.in-Ok-End.ensures.found) in
    none_reached left c.next_line.new.held (g.S.Source.left c.next_line.new.source) line c.run_empty.result found

pub returns-in-Ok-Faulty-clause-opens : goal.returns-in-Ok-Faulty-clause-opens
returns-in-Ok-Faulty-clause-opens g c = none_first (g.F.Files.opened c.args.files.now)
    (g.F.Files.opened c.args.files.now) (g.S.Source.left c.args.script.now) lines (ends.Script 1) refl
    (λ name. (refl, tt)) (λ e. absurd (cc))

pub returns-in-Err-Failed-clause-opens : goal.returns-in-Err-Failed-clause-opens
returns-in-Err-Failed-clause-opens g c = none_first (g.F.Files.opened c.args.files.now)
    (g.F.Files.opened c.args.files.now) (g.S.Source.left c.args.script.now) lines ends.ReadFault refl (λ name. tt)
    (λ e. absurd (cc))

pub returns-in-Err-WantOfMemory-clause-opens : goal.returns-in-Err-WantOfMemory-clause-opens
returns-in-Err-WantOfMemory-clause-opens g c = none_first (g.F.Files.opened c.args.files.now)
    (g.F.Files.opened c.args.files.now) (g.S.Source.left c.args.script.now) lines ends.WantOfMemory refl (λ name. tt)
    (λ e. absurd (cc))

pub returns-clause-opens : goal.returns-clause-opens
returns-clause-opens g c =
    let left = g.S.Source.left c.args.script.now in
    let after = prepend_known c.next_line.new.held (g.S.Source.left c.next_line.new.source) in
    let line = c.next_line.new.line.items in
    let found = subst (λ l. Finds 0 l after line found.Whole) (not_held c.in-Ok.held left c.in-Ok.ensures)
    (subst (Finds 0 (prepend_known c.in-Ok.held left) after line) c.in-Ok-Whole.field-0-is
    c.in-Ok-Whole.ensures.found) in
    script_opened (g.F.Files.opened c.args.files.now) (g.F.Files.opened c.run_stated.new.files) left after line
    c.as_slice.result.now c.run_stated.result found c.as_slice.ensures.value c.run_stated.ensures.opens

pub returns-clause-reached : goal.returns-clause-reached
returns-clause-reached g c =
    let left = g.S.Source.left c.args.script.now in
    let after = prepend_known c.next_line.new.held (g.S.Source.left c.next_line.new.source) in
    let line = c.next_line.new.line.items in
    let found = subst (λ l. Finds 0 l after line found.Whole) (not_held c.in-Ok.held left c.in-Ok.ensures)
    (subst (Finds 0 (prepend_known c.in-Ok.held left) after line) c.in-Ok-Whole.field-0-is
    c.in-Ok-Whole.ensures.found) in
    script_reached left after (g.S.Source.left c.run_stated.new.script) line c.run_stated.result found
    c.run_stated.ensures.reached
