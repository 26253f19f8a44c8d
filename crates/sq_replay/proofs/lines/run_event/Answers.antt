use Rattle.std.proofs.Common.{◌≡◌, OnOk, subst, sym, ◌∙◌}
use Rattle.sq_machine.specs.declared.entries.Event.{Event}
use Rattle.sq_machine.specs.declared.entries.Event.TheVariants.{Reconfigure}
use Rattle.sq_replay.specs.MachineViews.{machine_of}
use Rattle.sq_replay.specs.Openings.{Added, StepOpened, name_of}
use Rattle.sq_replay.specs.RunText.{event_step}
use Rattle.sq_replay.specs.Runs.{AddsCount, Goes, HasNext, openings_of}
use Rattle.sq_replay.proofs.EnteringLaws.{named_is, plain_is}
use Rattle.sq_replay.proofs.OpenedLaws.{plain_none, plain_opened}
use Rattle.sq_replay.proofs.lines.run_event.Goals as goal

pub returns-in-Ok-clause-goes : goal.returns-in-Ok-clause-goes
returns-in-Ok-clause-goes g c = λ base configs h shelf at tells next.
    let is : c.args.event ≡ Reconfigure c.in-Ok.name =
    named_is c.args.event c.in-Ok.name (sym c.named_of.ensures.named ∙ c.in-Ok.is) in
    subst (λ (e : Event). Goes (machine_of c.run_named.new.machine) base (g.O.Sink.contents c.run_named.new.out)
    c.run_named.new.page.items configs h (event_step shelf configs h c.args.number c.args.now e) c.run_named.result)
    (sym is)
    (c.run_named.ensures.goes base configs h shelf at tells (subst (λ (e : Event). HasNext shelf configs h e) is next))

pub returns-in-Ok-clause-counts : goal.returns-in-Ok-clause-counts
returns-in-Ok-clause-counts g c =
    let is : c.args.event ≡ Reconfigure c.in-Ok.name =
    named_is c.args.event c.in-Ok.name (sym c.named_of.ensures.named ∙ c.in-Ok.is) in
    subst (λ (e : Event). OnOk c.run_named.result
    (AddsCount (g.F.Files.opened c.args.files.now) (g.F.Files.opened c.run_named.new.files) (openings_of e))) (sym is)
    c.run_named.ensures.counts

pub returns-in-Err-clause-goes : goal.returns-in-Err-clause-goes
returns-in-Err-clause-goes g c = λ base configs h shelf at tells next.
    let is : c.args.event ≡ c.in-Err.event =
    plain_is c.args.event c.in-Err.event (sym c.named_of.ensures.named ∙ c.in-Err.is) in
    subst (λ (e : Event). Goes (machine_of c.run_plain.new.machine) base (g.O.Sink.contents c.run_plain.new.out)
    c.run_plain.new.page.items configs h (event_step shelf configs h c.args.number c.args.now e) c.run_plain.result)
    (sym is)
    (c.run_plain.ensures.goes base configs h shelf at)

pub returns-in-Ok-clause-opens : goal.returns-in-Ok-clause-opens
returns-in-Ok-clause-opens g c =
    let is : c.args.event ≡ Reconfigure c.in-Ok.name =
    named_is c.args.event c.in-Ok.name (sym c.named_of.ensures.named ∙ c.in-Ok.is) in
    subst (λ (e : Event). Added (g.F.Files.opened c.args.files.now) (g.F.Files.opened c.run_named.new.files)
    (StepOpened c.args.number (name_of e) c.run_named.result)) (sym is) c.run_named.ensures.opens

pub returns-in-Err-clause-opens : goal.returns-in-Err-clause-opens
returns-in-Err-clause-opens g c =
    plain_opened (g.F.Files.opened c.args.files.now) c.args.number c.args.event c.run_plain.result
    (plain_none c.args.event c.in-Err.event (sym c.named_of.ensures.named ∙ c.in-Err.is)) c.run_plain.ensures.end
