use Rattle.std.proofs.Common.{◌≡◌, ◌∷◌, None, Err, refl, subst, sym, ap}
use Rattle.std.specs.Io.KnownBytes.{prepend_known}
use Rattle.sq_outside.specs.SourceLines.{lines}
use Rattle.sq_replay.specs.Runs.{whole_line}
use Rattle.sq_replay.specs.declared.ends.RunEnd.TheVariants as ends
use Rattle.sq_journal.specs.Reading.{ReadsText}
use Rattle.sq_replay.specs.RunText.{run_stated, stated}
use Rattle.sq_replay.proofs.BeginLaws.{first_same, lacking_first, stopped_first}
use Rattle.sq_replay.proofs.OpenedLaws.{none_first}
use Rattle.sq_replay.proofs.beginning.run_stated.Goals as goal

pub returns-in-Ok-clause-runs : goal.returns-in-Ok-clause-runs
returns-in-Ok-clause-runs g c = λ base w.
    first_same _ _ _ _ base _ _ c.args.setup (whole_line c.args.line.now) _ _ c.run_first.result
    (λ files configs bytes. ap (run_stated files configs c.args.reader.now.place (lines bytes))
    (sym c.in-Ok.ensures.read))
    (c.run_first.ensures.runs base (whole_line c.args.line.now) c.in-Ok.ensures.read w)

pub returns-in-Err-BadEntry-clause-runs : goal.returns-in-Err-BadEntry-clause-runs
returns-in-Err-BadEntry-clause-runs g c = λ base w.
    let none : stated c.args.line.now ≡ None =
    subst (λ e. ReadsText (Err e) (stated c.args.line.now)) c.in-Err-BadEntry.field-0-is
    c.in-Err-BadEntry.ensures.read in
    stopped_first (g.F.Files.texts c.args.files.now) (g.F.Files.opened c.args.files.now)
    (g.F.Files.opened c.args.files.now) (prepend_known c.args.reader.now.held (g.S.Source.left c.args.script.now)) base
    (g.O.Sink.contents c.args.out.now) c.args.page.now.items
    c.args.setup (whole_line c.args.line.now)
    (λ files configs bytes. run_stated files configs c.args.reader.now.place (lines bytes) (stated c.args.line.now))
    (λ files configs bytes. ap (run_stated files configs c.args.reader.now.place (lines bytes)) none) w

pub returns-clause-runs : goal.returns-clause-runs
returns-clause-runs g c = λ base w.
    lacking_first (g.F.Files.texts c.args.files.now) (g.F.Files.opened c.args.files.now)
    (g.F.Files.opened c.args.files.now) (prepend_known c.args.reader.now.held (g.S.Source.left c.args.script.now)) base
    (g.O.Sink.contents c.args.out.now) c.args.page.now.items
    c.args.setup (whole_line c.args.line.now)
    (λ files configs bytes. run_stated files configs c.args.reader.now.place (lines bytes) (stated c.args.line.now)) w

pub returns-in-Ok-clause-opens : goal.returns-in-Ok-clause-opens
returns-in-Ok-clause-opens g c = c.run_first.ensures.opens (whole_line c.args.line.now) c.in-Ok.ensures.read

pub returns-in-Err-BadEntry-clause-opens : goal.returns-in-Err-BadEntry-clause-opens
returns-in-Err-BadEntry-clause-opens g c =
    none_first (g.F.Files.opened c.args.files.now) (g.F.Files.opened c.args.files.now)
    (prepend_known c.args.reader.now.held (g.S.Source.left c.args.script.now))
    (λ bytes. whole_line c.args.line.now ∷ lines bytes) (ends.Script 1) refl (λ name. (refl, tt)) (λ e. absurd (cc))

pub returns-clause-opens : goal.returns-clause-opens
returns-clause-opens g c =
    none_first (g.F.Files.opened c.args.files.now) (g.F.Files.opened c.args.files.now)
    (prepend_known c.args.reader.now.held (g.S.Source.left c.args.script.now))
    (λ bytes. whole_line c.args.line.now ∷ lines bytes) ends.WantOfMemory refl (λ name. tt) (λ e. absurd (cc))
