use Rattle.std.proofs.Common.{arith, subst, ◌∙◌, Ok, Err, refl}
use Rattle.std.specs.Io.KnownBytes.{prepend_known}
use Rattle.sq_outside.specs.SourceLines.{Finds, Moves}
use Rattle.sq_outside.specs.Told.{IsNotTold}
use Rattle.sq_replay.specs.Entering.{IfMissed}
use Rattle.sq_replay.specs.declared.ends.RunEnd.TheVariants as ends
use Rattle.sq_replay.specs.Openings.{Added, NameOpened, StopOpened, name_in}
use Rattle.sq_replay.specs.RunText.{stated}
use Rattle.sq_replay.specs.MachineViews.{machine_of}
use Rattle.sq_replay.specs.Runs.{AddsCount, LineGoes, missed, openings_in, paged, run_at, told_files}
use Rattle.sq_replay.proofs.LoopLaws.{going_end, going_faulty, going_first, going_lacking, going_next, going_stop, going_unread}
use Rattle.sq_replay.proofs.OpeningLaws.{adds_none, adds_then}
use Rattle.sq_replay.proofs.OpenedLaws.{opened_before, opened_end, opened_stop, reached_end, so_far_first, so_far_next, step_not_ok, not_reached}
use Rattle.sq_replay.proofs.lines.run_rest.Goals as goal

pub lines-init : goal.lines-init
lines-init g c = record {
  place_fits = c.requires;
  number_fits = omega arith;
  script_quiet = refl;
  files_quiet = refl;
  out_quiet = refl;
  texts_same = refl;
  adds = adds_none _ _ refl;
  opens = so_far_first (g.F.Files.opened c.args.files.now)
      (prepend_known c.args.reader.now.held (g.S.Source.left c.args.script.now));
  goes = λ base configs h at. going_first _ _ _ _ base _ _ configs h 2 c.args.reader.now.place at;
}

pub returns-in-Ok-End-clause-runs : goal.returns-in-Ok-End-clause-runs
returns-in-Ok-End-clause-runs g c = λ base configs h at.
    let left = prepend_known c.lines.reader.held (g.S.Source.left c.lines.script) in
    let after = prepend_known c.next_line.new.held (g.S.Source.left c.next_line.new.source) in
    let line = c.next_line.new.line.items in
    going_end _ _ _ _ _ left after base _ _ line configs h _ _ _ c.lines.invariant.adds
    (c.lines.invariant.goes base configs h at)
    (subst (Finds c.lines.reader.place left after line) c.in-Ok-End.field-0-is c.in-Ok-End.ensures.found)

pub returns-in-Ok-Faulty-clause-runs : goal.returns-in-Ok-Faulty-clause-runs
returns-in-Ok-Faulty-clause-runs g c = λ base configs h at.
    let left = prepend_known c.lines.reader.held (g.S.Source.left c.lines.script) in
    let after = prepend_known c.next_line.new.held (g.S.Source.left c.next_line.new.source) in
    let line = c.next_line.new.line.items in
    going_faulty _ _ _ _ _ left after base _ _ line configs h _ _ _ c.lines.invariant.adds
    (c.lines.invariant.goes base configs h at)
    (subst (Finds c.lines.reader.place left after line) c.in-Ok-Faulty.field-0-is c.in-Ok-Faulty.ensures.found)

pub returns-in-Err-Failed-clause-runs : goal.returns-in-Err-Failed-clause-runs
returns-in-Err-Failed-clause-runs g c = λ base configs h at.
    going_unread _ _ _ _ _ _ base _ _ configs h _ _ _ c.lines.invariant.adds (c.lines.invariant.goes base configs h at)

pub returns-in-Err-WantOfMemory-clause-runs : goal.returns-in-Err-WantOfMemory-clause-runs
returns-in-Err-WantOfMemory-clause-runs g c = λ base configs h at.
    going_lacking _ _ _ _ _ _ base _ _ configs h _ _ _ c.lines.invariant.adds (c.lines.invariant.goes base configs h at)

pub returns-in-Err-clause-runs : goal.returns-in-Err-clause-runs
returns-in-Err-clause-runs g c = λ base configs h at.
    let texts = g.F.Files.texts in
    let opened = g.F.Files.opened in
    let contents = g.O.Sink.contents in
    let left = prepend_known c.lines.reader.held (g.S.Source.left c.lines.script) in
    let after = prepend_known c.next_line.new.held (g.S.Source.left c.next_line.new.source) in
    let line = c.next_line.new.line.items in
    going_stop _ (machine_of c.run_line.new.machine) (texts c.args.files.now) _ (opened c.lines.files)
    (opened c.run_line.new.files) _ left after base (contents c.lines.out) (contents c.run_line.new.out)
    c.lines.page.items c.run_line.new.page.items line configs h _ _ _
    c.in-Err.end c.lines.invariant.adds c.in-Err.ensures.adds (c.lines.invariant.goes base configs h at)
    (subst (Finds c.lines.reader.place left after line) c.in-Ok-Whole.field-0-is c.in-Ok-Whole.ensures.found)
    (subst (λ t. LineGoes (run_at (machine_of c.lines.machine) (paged base (contents c.lines.out) c.lines.page.items))
    (run_at (machine_of c.run_line.new.machine) (paged base (contents c.run_line.new.out) c.run_line.new.page.items))
    (told_files t (opened c.lines.files) (opened c.run_line.new.files)) configs c.lines.number line (Err c.in-Err.end))
    c.lines.invariant.texts_same
    (subst (λ l. LineGoes (run_at (machine_of c.lines.machine) (paged base (contents c.lines.out) c.lines.page.items))
    (run_at (machine_of c.run_line.new.machine) (paged base (contents c.run_line.new.out) c.run_line.new.page.items))
    (told_files (texts c.lines.files) (opened c.lines.files) (opened c.run_line.new.files)) configs c.lines.number l
    (Err c.in-Err.end))
    c.as_slice.ensures.value (c.in-Err.ensures.goes base configs)))

pub returns-in-Err-clause-adds : goal.returns-in-Err-clause-adds
returns-in-Err-clause-adds g c = adds_then _ _ _ c.lines.invariant.adds c.in-Err.ensures.adds

pub returns-in-Err-clause-missing : goal.returns-in-Err-clause-missing
returns-in-Err-clause-missing g c = subst (λ t. IfMissed (missed c.in-Err.end) (IsNotTold t))
    c.lines.invariant.texts_same c.in-Err.ensures.missing

pub lines-preserved : goal.lines-preserved
lines-preserved g c =
    let texts = g.F.Files.texts in
    let opened = g.F.Files.opened in
    let contents = g.O.Sink.contents in
    let left = prepend_known c.lines.reader.held (g.S.Source.left c.lines.script) in
    let after = prepend_known c.next_line.new.held (g.S.Source.left c.next_line.new.source) in
    let line = c.next_line.new.line.items in
    let moved = subst (Moves c.lines.reader.place c.next_line.new.place line) c.in-Ok-Whole.field-0-is
    c.in-Ok-Whole.ensures.place in
    let counts : AddsCount (opened c.lines.files) (opened c.run_line.new.files) (openings_in (stated line)) =
    subst (λ l. AddsCount (opened c.lines.files) (opened c.run_line.new.files) (openings_in (stated l)))
    c.as_slice.ensures.value c.in-Ok.ensures.counts in
    record {
      place_fits = moved.1;
      number_fits = omega (arith, moved.0);
      script_quiet = c.in-Ok-Whole.ensures.cause.quiet ∙ c.lines.invariant.script_quiet;
      files_quiet = c.in-Ok.ensures.causes.files_quiet (λ e. absurd (cc)) ∙ c.lines.invariant.files_quiet;
      out_quiet = c.in-Ok.ensures.causes.out_quiet (λ e. absurd (cc)) ∙ c.lines.invariant.out_quiet;
      texts_same = c.in-Ok.ensures.texts ∙ c.lines.invariant.texts_same;
      adds = adds_then _ _ _ c.lines.invariant.adds c.in-Ok.ensures.adds;
      opens = so_far_next (g.F.Files.opened c.args.files.now) (opened c.lines.files) (opened c.run_line.new.files)
          (prepend_known c.args.reader.now.held (g.S.Source.left c.args.script.now)) left after c.lines.reader.place
          c.lines.number
          line
          c.lines.invariant.opens
          (subst (Finds c.lines.reader.place left after line) c.in-Ok-Whole.field-0-is c.in-Ok-Whole.ensures.found)
          (subst (λ l. Added (opened c.lines.files) (opened c.run_line.new.files) (NameOpened (name_in (stated l))))
          c.as_slice.ensures.value c.in-Ok.ensures.opens);
      goes = λ base configs h at.
          going_next _ (machine_of c.run_line.new.machine) (texts c.args.files.now) _ (opened c.lines.files)
          (opened c.run_line.new.files) _ left after base (contents c.lines.out) (contents c.run_line.new.out)
          c.lines.page.items c.run_line.new.page.items line configs h
          _ _ _ c.next_line.new.place c.lines.invariant.adds (c.lines.invariant.goes base configs h at)
          (subst (Finds c.lines.reader.place left after line) c.in-Ok-Whole.field-0-is c.in-Ok-Whole.ensures.found)
          moved.0
          counts
          (subst (λ t.
          LineGoes (run_at (machine_of c.lines.machine) (paged base (contents c.lines.out) c.lines.page.items))
          (run_at (machine_of c.run_line.new.machine) (paged base (contents c.run_line.new.out)
          c.run_line.new.page.items)) (told_files t (opened c.lines.files) (opened c.run_line.new.files)) configs
          c.lines.number line (Ok tt))
          c.lines.invariant.texts_same
          (subst (λ l.
          LineGoes (run_at (machine_of c.lines.machine) (paged base (contents c.lines.out) c.lines.page.items))
          (run_at (machine_of c.run_line.new.machine) (paged base (contents c.run_line.new.out)
          c.run_line.new.page.items))
          (told_files (texts c.lines.files) (opened c.lines.files) (opened c.run_line.new.files)) configs c.lines.number
          l (Ok tt))
          c.as_slice.ensures.value (c.in-Ok.ensures.goes base configs)));
    }

pub returns-in-Ok-End-clause-opens : goal.returns-in-Ok-End-clause-opens
returns-in-Ok-End-clause-opens g c =
    let left = prepend_known c.lines.reader.held (g.S.Source.left c.lines.script) in
    let after = prepend_known c.next_line.new.held (g.S.Source.left c.next_line.new.source) in
    let line = c.next_line.new.line.items in
    opened_end (g.F.Files.opened c.args.files.now) (g.F.Files.opened c.lines.files)
    (prepend_known c.args.reader.now.held (g.S.Source.left c.args.script.now)) left after c.lines.reader.place
    c.lines.number line
    c.lines.invariant.opens (subst (Finds c.lines.reader.place left after line) c.in-Ok-End.field-0-is
    c.in-Ok-End.ensures.found)

pub returns-in-Ok-End-clause-reached : goal.returns-in-Ok-End-clause-reached
returns-in-Ok-End-clause-reached g c =
    let left = prepend_known c.lines.reader.held (g.S.Source.left c.lines.script) in
    let after = prepend_known c.next_line.new.held (g.S.Source.left c.next_line.new.source) in
    let line = c.next_line.new.line.items in
    reached_end (g.F.Files.opened c.args.files.now) (g.F.Files.opened c.lines.files)
    (prepend_known c.args.reader.now.held (g.S.Source.left c.args.script.now)) left c.next_line.new.held
    (g.S.Source.left c.next_line.new.source) c.lines.reader.place c.lines.number line c.lines.invariant.opens
    (subst (Finds c.lines.reader.place left after line) c.in-Ok-End.field-0-is c.in-Ok-End.ensures.found)

pub returns-in-Ok-Faulty-clause-opens : goal.returns-in-Ok-Faulty-clause-opens
returns-in-Ok-Faulty-clause-opens g c =
    opened_before (g.F.Files.opened c.args.files.now) (g.F.Files.opened c.lines.files)
    (prepend_known c.args.reader.now.held (g.S.Source.left c.args.script.now))
    (prepend_known c.lines.reader.held (g.S.Source.left c.lines.script)) c.lines.number (ends.Script c.lines.number)
    c.lines.invariant.opens (λ name. (refl, tt)) (λ e. absurd (cc))

pub returns-in-Err-Failed-clause-opens : goal.returns-in-Err-Failed-clause-opens
returns-in-Err-Failed-clause-opens g c =
    opened_before (g.F.Files.opened c.args.files.now) (g.F.Files.opened c.lines.files)
    (prepend_known c.args.reader.now.held (g.S.Source.left c.args.script.now))
    (prepend_known c.lines.reader.held (g.S.Source.left c.lines.script)) c.lines.number ends.ReadFault
    c.lines.invariant.opens
    (λ name. tt) (λ e. absurd (cc))

pub returns-in-Err-WantOfMemory-clause-opens : goal.returns-in-Err-WantOfMemory-clause-opens
returns-in-Err-WantOfMemory-clause-opens g c =
    opened_before (g.F.Files.opened c.args.files.now) (g.F.Files.opened c.lines.files)
    (prepend_known c.args.reader.now.held (g.S.Source.left c.args.script.now))
    (prepend_known c.lines.reader.held (g.S.Source.left c.lines.script)) c.lines.number ends.WantOfMemory
    c.lines.invariant.opens (λ name. tt) (λ e. absurd (cc))

pub returns-in-Err-clause-opens : goal.returns-in-Err-clause-opens
returns-in-Err-clause-opens g c =
    let opened = g.F.Files.opened in
    let left = prepend_known c.lines.reader.held (g.S.Source.left c.lines.script) in
    let after = prepend_known c.next_line.new.held (g.S.Source.left c.next_line.new.source) in
    let line = c.next_line.new.line.items in
    opened_stop (g.F.Files.opened c.args.files.now) (opened c.lines.files) (opened c.run_line.new.files)
    (prepend_known c.args.reader.now.held (g.S.Source.left c.args.script.now)) left after c.lines.reader.place
    c.lines.number line
    c.in-Err.end c.lines.invariant.opens
    (subst (Finds c.lines.reader.place left after line) c.in-Ok-Whole.field-0-is c.in-Ok-Whole.ensures.found)
    (subst (λ l. Added (opened c.lines.files) (opened c.run_line.new.files)
    (StopOpened c.lines.number c.in-Err.end (name_in (stated l)))) c.as_slice.ensures.value c.in-Err.ensures.opens)
    (step_not_ok c.in-Err.end c.in-Err.ensures.end)

pub returns-in-Err-clause-reached : goal.returns-in-Err-clause-reached
returns-in-Err-clause-reached g c = not_reached c.in-Err.end
    (prepend_known c.args.reader.now.held (g.S.Source.left c.args.script.now)) (g.S.Source.left c.next_line.new.source)
    (step_not_ok c.in-Err.end c.in-Err.ensures.end)
