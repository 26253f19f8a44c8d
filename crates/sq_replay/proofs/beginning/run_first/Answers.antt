use Rattle.std.proofs.Common.{◌∷◌, ◌∙◌, ap, sym, refl, Some}
use Rattle.sq_outside.specs.SourceLines.{lines}
use Rattle.std.specs.Io.KnownBytes.{prepend_known}
use Rattle.sq_replay.specs.declared.beginning.FirstEvent.TheVariants as first
use Rattle.sq_replay.specs.declared.ends.RunEnd.TheVariants as ends
use Rattle.sq_replay.specs.RunText.{stopped}
use Rattle.sq_replay.proofs.BeginLaws.{by_kind, kind_begin, stopped_first}
use Rattle.sq_replay.proofs.OpenedLaws.{none_first}
use Rattle.sq_replay.proofs.beginning.run_first.Goals as goal

pub returns-in-Begin-clause-runs : goal.returns-in-Begin-clause-runs
returns-in-Begin-clause-runs g c = λ base l states w.
    let kind = sym c.first_kind.ensures ∙ c.in-Begin.is in
    by_kind _ _ _ _ base _ _ c.args.setup l c.args.reader.now.place c.args.first.moment c.args.first.event
    (first.Begin c.in-Begin.offset)
    c.run_begun.result (sym kind)
    (c.run_begun.ensures.runs base l
    (states ∙ ap (λ e. Some (c.args.first.moment, e)) (kind_begin c.args.first.event c.in-Begin.offset kind)) w)

pub returns-in-Act-clause-runs : goal.returns-in-Act-clause-runs
returns-in-Act-clause-runs g c = λ base l states w.
    let texts = g.F.Files.texts c.args.files.now in
    let opened = g.F.Files.opened c.args.files.now in
    let left = prepend_known c.args.reader.now.held (g.S.Source.left c.args.script.now) in
    let contents = g.O.Sink.contents c.args.out.now in
    by_kind texts opened opened left base contents c.args.page.now.items c.args.setup l c.args.reader.now.place
    c.args.first.moment
    c.args.first.event first.Act (ends.Script 1) (sym c.in-Act.is ∙ c.first_kind.ensures)
    (stopped_first texts opened opened left base contents c.args.page.now.items c.args.setup l
    (λ files configs bytes. stopped (ends.Script 1)) (λ files configs bytes. refl) w)

pub returns-in-Other-clause-runs : goal.returns-in-Other-clause-runs
returns-in-Other-clause-runs g c = λ base l states w.
    by_kind _ _ _ _ base _ _ c.args.setup l c.args.reader.now.place c.args.first.moment c.args.first.event first.Other
    c.run_from.result
    (sym c.in-Other.is ∙ c.first_kind.ensures)
    (c.run_from.ensures.runs base l states w)

pub returns-in-Begin-clause-opens : goal.returns-in-Begin-clause-opens
returns-in-Begin-clause-opens g c = λ l states.
    c.run_begun.ensures.opens l
    (states ∙ ap (λ e. Some (c.args.first.moment, e))
    (kind_begin c.args.first.event c.in-Begin.offset (sym c.first_kind.ensures ∙ c.in-Begin.is)))

pub returns-in-Other-clause-opens : goal.returns-in-Other-clause-opens
returns-in-Other-clause-opens g c = λ l states. c.run_from.ensures.opens l states

pub returns-in-Act-clause-opens : goal.returns-in-Act-clause-opens
returns-in-Act-clause-opens g c = λ l states.
    none_first (g.F.Files.opened c.args.files.now) (g.F.Files.opened c.args.files.now)
    (prepend_known c.args.reader.now.held (g.S.Source.left c.args.script.now)) (λ bytes. l ∷ lines bytes)
    (ends.Script 1) refl
    (λ name. (refl, tt)) (λ e. absurd (cc))
