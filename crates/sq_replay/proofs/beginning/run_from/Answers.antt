use Rattle.std.proofs.Common.{pos, refl, subst}
use Rattle.std.specs.Io.KnownBytes.{prepend_known}
use Rattle.sq_outside.specs.SourceLines.{lines}
use Rattle.sq_outside.specs.Told.{IsNotTold}
use Rattle.sq_replay.specs.Entering.{IfMissed}
use Rattle.sq_replay.specs.MachineViews.{machine_of}
use Rattle.sq_replay.specs.RunText.{begun_history, run_from, run_lines}
use Rattle.sq_replay.specs.Runs.{RunsOver, missed, paged, told_files}
use Rattle.sq_replay.proofs.BeginLaws.{begins_first, from_first_goes, from_first_stops}
use Rattle.sq_replay.proofs.GrowthLaws.{from_grows}
use Rattle.sq_replay.proofs.OpeningLaws.{adds_then}
use Rattle.sq_replay.proofs.OpenedLaws.{begin_not_ok, begun_none, first_then, not_reached, step_not_ok, stopped_at}
use Rattle.sq_replay.proofs.beginning.run_from.Goals as goal

pub returns-in-Err-clause-runs : goal.returns-in-Err-clause-runs
returns-in-Err-clause-runs g c = λ base l states w.
    begins_first _ _ _ _ base _ _ c.args.setup l
    (λ files configs bytes. run_from files configs c.args.reader.now.place (lines bytes) c.args.first.moment
    c.args.first.event) c.args.first.moment
    (pos 0) c.in-Err.end c.requires.good
    (λ files configs bytes. from_grows files configs c.args.reader.now.place c.args.first.moment (lines bytes)
    c.args.first.event)
    (λ configs good at. c.in-Err.ensures.begins base configs good at w)

pub returns-in-Err-run_event-clause-runs : goal.returns-in-Err-run_event-clause-runs
returns-in-Err-run_event-clause-runs g c = λ base l states w.
    from_first_stops _ _ _ _ base _ _ c.args.setup l c.args.reader.now.place c.args.first.moment c.args.first.event
    c.in-Err-run_event.end
    c.requires.good states
    (λ configs good at files tells next. c.in-Err-run_event.ensures.goes base configs
    (begun_history configs c.args.first.moment (pos 0)) files (c.in-Ok.ensures.begins base configs good at w) tells
    next)

pub returns-clause-runs : goal.returns-clause-runs
returns-clause-runs g c = λ base l states w.
    from_first_goes (machine_of c.run_event.new.machine) _ _ (g.F.Files.opened c.run_event.new.files) _ _ base
    (g.O.Sink.contents c.run_event.new.out) _ c.run_event.new.page.items _ c.args.setup l c.args.reader.now.place
    c.args.first.moment
    c.args.first.event c.run_rest.result c.requires.good states
    c.in-Ok-run_event.ensures.counts c.run_rest.ensures.adds
    (λ configs good at files tells next. c.in-Ok-run_event.ensures.goes base configs
    (begun_history configs c.args.first.moment (pos 0)) files (c.in-Ok.ensures.begins base configs good at w) tells
    next)
    (λ configs t is.
    subst (λ tx.
    RunsOver (told_files tx (g.F.Files.opened c.run_event.new.files) (g.F.Files.opened c.run_rest.new.files))
    (prepend_known c.args.reader.now.held (g.S.Source.left c.args.script.now))
    (paged base (g.O.Sink.contents c.run_rest.new.out) c.run_rest.new.page.items) configs t
    (λ shelf bytes. run_lines shelf configs t 2 c.args.reader.now.place (lines bytes)) c.run_rest.result)
    c.in-Ok-run_event.ensures.texts (c.run_rest.ensures.runs base configs t is))

pub returns-clause-adds : goal.returns-clause-adds
returns-clause-adds g c = adds_then _ _ _ c.in-Ok-run_event.ensures.adds c.run_rest.ensures.adds

pub returns-clause-missing : goal.returns-clause-missing
returns-clause-missing g c = subst (λ t. IfMissed (missed c.run_rest.result) (IsNotTold t))
    c.in-Ok-run_event.ensures.texts c.run_rest.ensures.missing

pub returns-in-Err-clause-opens : goal.returns-in-Err-clause-opens
returns-in-Err-clause-opens g c = λ l states. begun_none (g.F.Files.opened c.args.files.now)
    (g.F.Files.opened c.args.files.now) (prepend_known c.args.reader.now.held (g.S.Source.left c.args.script.now)) l
    c.in-Err.end refl c.in-Err.ensures.end

pub returns-in-Err-clause-reached : goal.returns-in-Err-clause-reached
returns-in-Err-clause-reached g c = not_reached c.in-Err.end
    (prepend_known c.args.reader.now.held (g.S.Source.left c.args.script.now)) (g.S.Source.left c.args.script.now)
    (begin_not_ok c.in-Err.end c.in-Err.ensures.end)

pub returns-in-Err-run_event-clause-opens : goal.returns-in-Err-run_event-clause-opens
returns-in-Err-run_event-clause-opens g c = λ l states.
    stopped_at (g.F.Files.opened c.args.files.now) (g.F.Files.opened c.run_event.new.files)
    (prepend_known c.args.reader.now.held (g.S.Source.left c.args.script.now)) l c.args.first.moment c.args.first.event
    c.in-Err-run_event.end
    states c.in-Err-run_event.ensures.opens c.in-Err-run_event.ensures.end

pub returns-in-Err-run_event-clause-reached : goal.returns-in-Err-run_event-clause-reached
returns-in-Err-run_event-clause-reached g c = not_reached c.in-Err-run_event.end
    (prepend_known c.args.reader.now.held (g.S.Source.left c.args.script.now)) (g.S.Source.left c.args.script.now)
    (step_not_ok c.in-Err-run_event.end c.in-Err-run_event.ensures.end)

pub returns-clause-opens : goal.returns-clause-opens
returns-clause-opens g c = λ l states.
    first_then (g.F.Files.opened c.args.files.now) (g.F.Files.opened c.run_event.new.files)
    (g.F.Files.opened c.run_rest.new.files) (prepend_known c.args.reader.now.held (g.S.Source.left c.args.script.now)) l
    c.args.first.moment c.args.first.event c.run_rest.result states c.in-Ok-run_event.ensures.opens
    c.run_rest.ensures.opens
