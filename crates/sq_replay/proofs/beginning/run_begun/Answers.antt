use Rattle.std.proofs.Common.{None, refl}
use Rattle.std.specs.Io.KnownBytes.{prepend_known}
use Rattle.sq_outside.specs.SourceLines.{lines}
use Rattle.sq_machine.specs.declared.entries.Event.TheVariants.{Begin}
use Rattle.sq_replay.specs.Openings.{NameOpened}
use Rattle.sq_replay.specs.RunText.{begun_history, run_lines}
use Rattle.sq_replay.proofs.BeginLaws.{begins_first, begun_first}
use Rattle.sq_replay.proofs.GrowthLaws.{run_grows}
use Rattle.sq_replay.proofs.OpenedLaws.{Added_none, begin_not_ok, begun_none, first_then, not_reached}
use Rattle.sq_replay.proofs.beginning.run_begun.Goals as goal

pub returns-in-Err-clause-runs : goal.returns-in-Err-clause-runs
returns-in-Err-clause-runs g c = λ base l states w.
    begins_first _ _ _ _ base _ _ c.args.setup l
    (λ files configs bytes. run_lines files configs (begun_history configs c.args.at.moment c.args.at.offset) 2
    c.args.reader.now.place
    (lines bytes)) c.args.at.moment c.args.at.offset c.in-Err.end c.requires.good
    (λ files configs bytes. run_grows files configs (begun_history configs c.args.at.moment c.args.at.offset) 2
    c.args.reader.now.place
    (lines bytes)) (λ configs good at. c.in-Err.ensures.begins base configs good at w)

pub returns-clause-runs : goal.returns-clause-runs
returns-clause-runs g c = λ base l states w.
    begun_first _ _ _ _ base _ _ c.args.setup l c.args.reader.now.place c.args.at.moment c.args.at.offset
    c.run_rest.result c.requires.good
    states
    (λ configs good at. c.run_rest.ensures.runs base configs (begun_history configs c.args.at.moment c.args.at.offset)
    (c.in-Ok.ensures.begins base configs good at w))

pub returns-in-Err-clause-opens : goal.returns-in-Err-clause-opens
returns-in-Err-clause-opens g c = λ l states. begun_none (g.F.Files.opened c.args.files.now)
    (g.F.Files.opened c.args.files.now) (prepend_known c.args.reader.now.held (g.S.Source.left c.args.script.now)) l
    c.in-Err.end refl c.in-Err.ensures.end

pub returns-in-Err-clause-reached : goal.returns-in-Err-clause-reached
returns-in-Err-clause-reached g c = not_reached c.in-Err.end
    (prepend_known c.args.reader.now.held (g.S.Source.left c.args.script.now)) (g.S.Source.left c.args.script.now)
    (begin_not_ok c.in-Err.end c.in-Err.ensures.end)

pub returns-clause-opens : goal.returns-clause-opens
returns-clause-opens g c = λ l states.
    let old = g.F.Files.opened c.args.files.now in
    first_then old old (g.F.Files.opened c.run_rest.new.files)
    (prepend_known c.args.reader.now.held (g.S.Source.left c.args.script.now)) l c.args.at.moment
    (Begin c.args.at.offset)
    c.run_rest.result states (Added_none old old (NameOpened None) refl refl) c.run_rest.ensures.opens
