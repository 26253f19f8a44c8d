use Rattle.std.proofs.Common.{arith, subst, refl, sym, ◌∙◌, List, ℕ, [], IfSome, Ok, Err}
use Rattle.std.specs.Io.KnownBytes.{prepend_known}
use Rattle.std.specs.declared.option.Option.{Option}
use Rattle.sq_outside.specs.SourceLines.{Finds, Moves, lines, script_line_limit}
use Rattle.sq_replay.specs.Runs.{Wrote}
use Rattle.sq_verify.specs.Migrating.{MigratesLine, ReadSoFar, read_journal}
use Rattle.sq_verify.specs.Promised.{StaysKnown}
use Rattle.sq_verify.proofs.LoopLaws.{known_end, stays_known}
use Rattle.sq_verify.proofs.MigrateLaws.{told_based, told_map, left_at_end, on_ok, going_begins, going_ended, going_faulty, going_front, going_lines, going_stops, going_on, nothing_held}
use Rattle.sq_verify.proofs.migrating.migrate.Goals as goal

pub returns-in-Err-clause-migrates : goal.returns-in-Err-clause-migrates
returns-in-Err-clause-migrates g c =
    told_based _ _ _ _ (λ bytes base at. going_front _ _ _ _ _ _ _ _ at)
    (going_begins (g.O.Sink.contents c.args.out.now) (g.S.Source.left c.args.journal.now) c.args.page.now.items)

pub lines-init : goal.lines-init
lines-init g c =
    let now = g.O.Sink.contents c.args.out.now in
    let left = g.S.Source.left c.args.journal.now in
    let page = c.args.page.now.items in
    record {
      place_fits = omega arith;
      count_fits = omega arith;
      journal_quiet = refl;
      out_quiet = refl;
      going = subst (λ h. IfSome left
          (λ bytes. (base : Option (List ℕ)) → Wrote base now page []
          → ReadSoFar base (prepend_known h left) now page 0 1 0 (read_journal (lines bytes)))) (sym c.in-Ok.ensures)
          (going_begins now left page);
      known = subst (λ h. StaysKnown left (prepend_known h left)) (sym c.in-Ok.ensures) (nothing_held left);
    }

pub returns-in-Ok-End-clause-migrates : goal.returns-in-Ok-End-clause-migrates
returns-in-Ok-End-clause-migrates g c =
    let left = prepend_known c.lines.held (g.S.Source.left c.lines.journal) in
    let after = prepend_known c.next_line.new.held (g.S.Source.left c.next_line.new.source) in
    let now = g.O.Sink.contents c.lines.out in
    let line = c.next_line.new.line.items in
    told_based _ _ _ _ (λ bytes base at. going_ended base left now after c.lines.page.items c.lines.count c.lines.epoch
    c.lines.place (read_journal (lines bytes)) line c.ended.result c.ended.ensures.some c.ended.ensures.none
    (subst (Finds c.lines.place left after line) c.in-Ok-End.field-0-is c.in-Ok-End.ensures.found)
    at) c.lines.invariant.going

pub returns-in-Ok-End-clause-end : goal.returns-in-Ok-End-clause-end
returns-in-Ok-End-clause-end g c =
    let left = prepend_known c.lines.held (g.S.Source.left c.lines.journal) in
    let after = prepend_known c.next_line.new.held (g.S.Source.left c.next_line.new.source) in
    let line = c.next_line.new.line.items in
    on_ok _ c.ended.result (told_map _ _ _
    (λ bytes known. left_at_end c.next_line.new.held (g.S.Source.left c.next_line.new.source)
    (known_end script_line_limit c.lines.place left after line
    (subst (Finds c.lines.place left after line) c.in-Ok-End.field-0-is c.in-Ok-End.ensures.found)
    known)) c.lines.invariant.known)

pub returns-in-Ok-Faulty-clause-migrates : goal.returns-in-Ok-Faulty-clause-migrates
returns-in-Ok-Faulty-clause-migrates g c =
    let left = prepend_known c.lines.held (g.S.Source.left c.lines.journal) in
    let after = prepend_known c.next_line.new.held (g.S.Source.left c.next_line.new.source) in
    let now = g.O.Sink.contents c.lines.out in
    let line = c.next_line.new.line.items in
    told_based _ _ _ _ (λ bytes base at. going_faulty base left now after c.lines.page.items c.lines.count c.lines.epoch
    c.lines.place (read_journal (lines bytes)) line at
    (subst (Finds c.lines.place left after line) c.in-Ok-Faulty.field-0-is
    c.in-Ok-Faulty.ensures.found)) c.lines.invariant.going

pub returns-in-Err-Failed-clause-migrates : goal.returns-in-Err-Failed-clause-migrates
returns-in-Err-Failed-clause-migrates g c =
    told_based _ _ _ _ (λ bytes base at. going_lines _ _ _ _ _ _ _ _ at) c.lines.invariant.going

pub returns-in-Err-WantOfMemory-clause-migrates : goal.returns-in-Err-WantOfMemory-clause-migrates
returns-in-Err-WantOfMemory-clause-migrates g c =
    told_based _ _ _ _ (λ bytes base at. going_front _ _ _ _ _ _ _ _ at) c.lines.invariant.going

pub returns-in-Err-migrate_line-clause-migrates : goal.returns-in-Err-migrate_line-clause-migrates
returns-in-Err-migrate_line-clause-migrates g c =
    let left = prepend_known c.lines.held (g.S.Source.left c.lines.journal) in
    let after = prepend_known c.next_line.new.held (g.S.Source.left c.next_line.new.source) in
    let now = g.O.Sink.contents c.lines.out in
    let line = c.next_line.new.line.items in
    let step = subst (λ l. MigratesLine now (g.O.Sink.contents c.migrate_line.new.out) c.lines.page.items
    c.migrate_line.new.page.items c.lines.count c.lines.epoch l (Err c.in-Err-migrate_line.fault))
    c.as_slice.ensures.value
    c.in-Err-migrate_line.ensures.line in
    told_based _ _ _ _ (λ bytes base at. going_stops base left now after _ c.lines.page.items _ c.lines.count
    c.lines.epoch c.lines.place (read_journal (lines bytes)) line _
    (omega (arith, c.lines.invariant.count_fits, c.lines.invariant.place_fits))
    (subst (Finds c.lines.place left after line) c.in-Ok-Whole.field-0-is c.in-Ok-Whole.ensures.found) step
    at) c.lines.invariant.going

pub lines-preserved : goal.lines-preserved
lines-preserved g c =
    let left = prepend_known c.lines.held (g.S.Source.left c.lines.journal) in
    let after = prepend_known c.next_line.new.held (g.S.Source.left c.next_line.new.source) in
    let now = g.O.Sink.contents c.lines.out in
    let line = c.next_line.new.line.items in
    let moved = subst (Moves c.lines.place c.next_line.new.place line) c.in-Ok-Whole.field-0-is
    c.in-Ok-Whole.ensures.place in
    let finds = subst (Finds c.lines.place left after line) c.in-Ok-Whole.field-0-is c.in-Ok-Whole.ensures.found in
    let step = subst (λ l. MigratesLine now (g.O.Sink.contents c.migrate_line.new.out) c.lines.page.items
    c.migrate_line.new.page.items c.lines.count c.lines.epoch l (Ok c.in-Ok-migrate_line.next)) c.as_slice.ensures.value
    c.in-Ok-migrate_line.ensures.line in
    record {
      place_fits = moved.1;
      count_fits = omega (arith, moved.0, c.lines.invariant.count_fits);
      journal_quiet = c.in-Ok-Whole.ensures.cause.quiet ∙ c.lines.invariant.journal_quiet;
      out_quiet = c.in-Ok-migrate_line.ensures.quiet (λ e. absurd (cc)) ∙ c.lines.invariant.out_quiet;
      going = told_based _ _ _ _
          (λ bytes base at. going_on base left now after _ c.lines.page.items _ c.lines.count c.lines.epoch
          c.lines.place
          c.next_line.new.place _ (read_journal (lines bytes)) line
          (omega (arith, c.lines.invariant.count_fits, c.lines.invariant.place_fits)) finds moved.0 step
          at) c.lines.invariant.going;
      known = stays_known (g.S.Source.left c.args.journal.now) left after script_line_limit c.lines.place line finds
          c.lines.invariant.known;
    }
