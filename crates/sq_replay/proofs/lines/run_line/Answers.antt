use Rattle.std.proofs.Common.{OnOk, refl, subst, sym}
use Rattle.sq_journal.specs.EntryText.{written}
use Rattle.sq_replay.specs.MachineViews.{machine_of}
use Rattle.sq_replay.specs.Runs.{AddsCount, Goes, openings_in, whole_line}
use Rattle.sq_replay.specs.declared.ends.RunEnd.TheVariants as ends
use Rattle.sq_replay.specs.Openings.{Added, StepOpened, StopOpened, name_in}
use Rattle.sq_replay.specs.RunText.{stated, stated_step}
use Rattle.sq_replay.proofs.LoopLaws.{ahead_stated, stated_grows}
use Rattle.sq_replay.proofs.OpenedLaws.{Added_none}
use Rattle.sq_replay.proofs.lines.run_line.Goals as goal

pub returns-in-Ok-clause-goes : goal.returns-in-Ok-clause-goes
returns-in-Ok-clause-goes g c = λ base configs h shelf ls at tells ahead.
    subst (λ o. Goes (machine_of c.run_event.new.machine) base (g.O.Sink.contents c.run_event.new.out)
    c.run_event.new.page.items configs h (stated_step shelf configs h c.args.number o) c.run_event.result)
    (sym c.in-Ok.ensures.read)
    (c.run_event.ensures.goes base configs h shelf
    at tells (ahead_stated shelf configs h (whole_line c.args.line.now) ls _ c.in-Ok.ensures.read ahead))

pub returns-in-Ok-clause-counts : goal.returns-in-Ok-clause-counts
returns-in-Ok-clause-counts g c =
    subst (λ o. OnOk c.run_event.result
    (AddsCount (g.F.Files.opened c.args.files.now) (g.F.Files.opened c.run_event.new.files) (openings_in o)))
    (sym c.in-Ok.ensures.read) c.run_event.ensures.counts

pub returns-in-Err-WantOfMemory-clause-goes : goal.returns-in-Err-WantOfMemory-clause-goes
returns-in-Err-WantOfMemory-clause-goes g c = λ base configs h shelf ls at tells ahead. record {
  front = written h;
  begins = stated_grows shelf configs h c.args.number c.args.line.now;
  wrote = at.wrote;
}

pub returns-in-Ok-clause-opens : goal.returns-in-Ok-clause-opens
returns-in-Ok-clause-opens g c =
    subst (λ o. Added (g.F.Files.opened c.args.files.now) (g.F.Files.opened c.run_event.new.files)
    (StepOpened c.args.number (name_in o) c.run_event.result)) (sym c.in-Ok.ensures.read) c.run_event.ensures.opens

pub returns-in-Err-BadEntry-clause-opens : goal.returns-in-Err-BadEntry-clause-opens
returns-in-Err-BadEntry-clause-opens g c =
    Added_none (g.F.Files.opened c.args.files.now) (g.F.Files.opened c.args.files.now)
    (StopOpened c.args.number (ends.Script c.args.number) (name_in (stated c.args.line.now))) refl (refl, tt)

pub returns-in-Err-WantOfMemory-clause-opens : goal.returns-in-Err-WantOfMemory-clause-opens
returns-in-Err-WantOfMemory-clause-opens g c =
    Added_none (g.F.Files.opened c.args.files.now) (g.F.Files.opened c.args.files.now)
    (StopOpened c.args.number ends.WantOfMemory (name_in (stated c.args.line.now))) refl tt
