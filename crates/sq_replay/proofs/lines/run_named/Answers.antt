use Rattle.std.proofs.Common.{◌≡◌, ◌∷◌, max, Ok, Err, Some, subst, ◌∙◌}
use Rattle.sq_machine.specs.declared.entries.Event.TheVariants.{Reconfigure}
use Rattle.sq_machine.specs.Readings.{current}
use Rattle.sq_replay.specs.declared.page.Unwritten.TheVariants as untold
use Rattle.sq_replay.specs.Entering.{Arrives}
use Rattle.sq_replay.specs.MachineViews.{machine_of}
use Rattle.sq_replay.specs.Making.{IsReconfiguring}
use Rattle.sq_replay.specs.RunText.{acts, event_step}
use Rattle.sq_replay.specs.Runs.{IsMade}
use Rattle.sq_conf.proofs.TextLaws.{gives_source}
use Rattle.sq_replay.proofs.EnteringLaws.{arrives_at, event_front, front_step, named_refused, named_step, named_stops, part_step}
use Rattle.sq_replay.proofs.OpenedLaws.{opened_refused, opened_stops}
use Rattle.sq_replay.proofs.lines.run_named.Goals as goal
use Rattle.sq_machine.specs.Entries.{entry_at}

pub returns-in-Err-clause-goes : goal.returns-in-Err-clause-goes
returns-in-Err-clause-goes g c = λ base configs h shelf at tells next.
    named_stops (machine_of c.args.machine.now) shelf base _ _ configs h c.args.number c.args.now c.args.name
    c.in-Err.end at (c.in-Err.ensures.reads shelf (current h) tells)

pub returns-in-Err-Refused-clause-goes : goal.returns-in-Err-Refused-clause-goes
returns-in-Err-Refused-clause-goes g c = λ base configs h shelf at tells next.
    let read = c.in-Ok.ensures.reads shelf (current h) tells in
    let making = subst (λ e. IsReconfiguring (machine_of c.args.machine.now) (machine_of c.reconfigure.new.self)
    c.args.now c.in-Ok.named.1 (Err e)) c.in-Err-Refused.field-0-is c.in-Err-Refused.ensures.making in (
      named_refused (machine_of c.args.machine.now) shelf configs h c.args.number c.args.now c.args.name c.in-Ok.named.0
          c.in-Ok.named.1 at.is read.0 read.1 (making configs h at.is),
      at.wrote,
    )

pub returns-in-Err-WantOfMemory-clause-goes : goal.returns-in-Err-WantOfMemory-clause-goes
returns-in-Err-WantOfMemory-clause-goes g c = λ base configs h shelf at tells next. event_front shelf base _ _ configs h
    c.args.number c.args.now (Reconfigure c.args.name) at.wrote

pub returns-in-Ok-enter-clause-goes : goal.returns-in-Ok-enter-clause-goes
returns-in-Ok-enter-clause-goes g c = λ base configs h shelf at tells next.
    let read = c.in-Ok.ensures.reads shelf (current h) tells in
    let source : c.in-Ok.named.1.source ≡ c.in-Ok.named.0 = gives_source c.in-Ok.named.0 c.in-Ok.named.1 read.1 in
    let moment : c.latest.result ≡ max c.args.now c.args.machine.now.latest = c.latest.ensures
    ∙ c.in-Ok-reconfigure.ensures.latest in
    let made : IsMade (machine_of c.reconfigure.new.self) configs h (max c.args.now c.args.machine.now.latest)
    (Reconfigure c.in-Ok.named.0) c.in-Ok-reconfigure.answer =
    subst (λ s. IsMade (machine_of c.reconfigure.new.self) configs h (max c.args.now c.args.machine.now.latest)
    (Reconfigure s) c.in-Ok-reconfigure.answer) source
    (c.in-Ok-reconfigure.ensures.making configs h at.is (next c.in-Ok.named.0 c.in-Ok.named.1 read.0 read.1)) in
    let step = named_step (machine_of c.args.machine.now) (machine_of c.reconfigure.new.self) shelf configs h
    c.args.number c.args.now c.args.name c.in-Ok.named.0 c.in-Ok.named.1 c.in-Ok-reconfigure.answer at.is read.0 read.1
    made in
    let t = acts configs (entry_at (max c.args.now c.args.machine.now.latest) (Reconfigure c.in-Ok.named.0)
    c.in-Ok-reconfigure.answer ∷ h) in
    let arrived : Arrives (machine_of c.enter.new.machine) base (g.O.Sink.contents c.enter.new.out)
    c.enter.new.page.items configs t (Ok tt) =
    arrives_at (machine_of c.reconfigure.new.self) (machine_of c.enter.new.machine) base
    (g.O.Sink.contents c.args.out.now) (g.O.Sink.contents c.enter.new.out) c.args.page.now.items c.enter.new.page.items
    configs h c.latest.result
    (max c.args.now c.args.machine.now.latest) (Reconfigure c.in-Ok.named.0) c.in-Ok-reconfigure.answer (Ok tt) moment
    (λ is w. c.in-Ok-enter.ensures.arrives base configs h is w) made.is at.wrote in
    (t, step, arrived)

pub returns-in-Err-Failed-clause-goes : goal.returns-in-Err-Failed-clause-goes
returns-in-Err-Failed-clause-goes g c = λ base configs h shelf at tells next.
    let read = c.in-Ok.ensures.reads shelf (current h) tells in
    let source : c.in-Ok.named.1.source ≡ c.in-Ok.named.0 = gives_source c.in-Ok.named.0 c.in-Ok.named.1 read.1 in
    let moment : c.latest.result ≡ max c.args.now c.args.machine.now.latest = c.latest.ensures
    ∙ c.in-Ok-reconfigure.ensures.latest in
    let made : IsMade (machine_of c.reconfigure.new.self) configs h (max c.args.now c.args.machine.now.latest)
    (Reconfigure c.in-Ok.named.0) c.in-Ok-reconfigure.answer =
    subst (λ s. IsMade (machine_of c.reconfigure.new.self) configs h (max c.args.now c.args.machine.now.latest)
    (Reconfigure s) c.in-Ok-reconfigure.answer) source
    (c.in-Ok-reconfigure.ensures.making configs h at.is (next c.in-Ok.named.0 c.in-Ok.named.1 read.0 read.1)) in
    let step = named_step (machine_of c.args.machine.now) (machine_of c.reconfigure.new.self) shelf configs h
    c.args.number c.args.now c.args.name c.in-Ok.named.0 c.in-Ok.named.1 c.in-Ok-reconfigure.answer at.is read.0 read.1
    made in
    let t = acts configs (entry_at (max c.args.now c.args.machine.now.latest) (Reconfigure c.in-Ok.named.0)
    c.in-Ok-reconfigure.answer ∷ h) in
    let arrived : Arrives (machine_of c.enter.new.machine) base (g.O.Sink.contents c.enter.new.out)
    c.enter.new.page.items configs t (Err untold.Failed) =
    arrives_at (machine_of c.reconfigure.new.self) (machine_of c.enter.new.machine) base
    (g.O.Sink.contents c.args.out.now) (g.O.Sink.contents c.enter.new.out) c.args.page.now.items c.enter.new.page.items
    configs h c.latest.result
    (max c.args.now c.args.machine.now.latest) (Reconfigure c.in-Ok.named.0) c.in-Ok-reconfigure.answer
    (Err untold.Failed) moment
    (λ is w. subst (λ f. Arrives (machine_of c.enter.new.machine) base (g.O.Sink.contents c.enter.new.out)
    c.enter.new.page.items configs
    (acts configs (entry_at c.latest.result (Reconfigure c.in-Ok.named.0) c.in-Ok-reconfigure.answer ∷ h)) (Err f))
    c.in-Err-Failed.field-0-is (c.in-Err-Failed.ensures.arrives base configs h is w)) made.is at.wrote in
    part_step base (g.O.Sink.contents c.enter.new.out) h t
    (event_step shelf configs h c.args.number c.args.now (Reconfigure c.args.name)) step arrived

pub returns-in-Err-WantOfMemory-enter-clause-goes : goal.returns-in-Err-WantOfMemory-enter-clause-goes
returns-in-Err-WantOfMemory-enter-clause-goes g c = λ base configs h shelf at tells next.
    let read = c.in-Ok.ensures.reads shelf (current h) tells in
    let source : c.in-Ok.named.1.source ≡ c.in-Ok.named.0 = gives_source c.in-Ok.named.0 c.in-Ok.named.1 read.1 in
    let moment : c.latest.result ≡ max c.args.now c.args.machine.now.latest = c.latest.ensures
    ∙ c.in-Ok-reconfigure.ensures.latest in
    let made : IsMade (machine_of c.reconfigure.new.self) configs h (max c.args.now c.args.machine.now.latest)
    (Reconfigure c.in-Ok.named.0) c.in-Ok-reconfigure.answer =
    subst (λ s. IsMade (machine_of c.reconfigure.new.self) configs h (max c.args.now c.args.machine.now.latest)
    (Reconfigure s) c.in-Ok-reconfigure.answer) source
    (c.in-Ok-reconfigure.ensures.making configs h at.is (next c.in-Ok.named.0 c.in-Ok.named.1 read.0 read.1)) in
    let step = named_step (machine_of c.args.machine.now) (machine_of c.reconfigure.new.self) shelf configs h
    c.args.number c.args.now c.args.name c.in-Ok.named.0 c.in-Ok.named.1 c.in-Ok-reconfigure.answer at.is read.0 read.1
    made in
    let t = acts configs (entry_at (max c.args.now c.args.machine.now.latest) (Reconfigure c.in-Ok.named.0)
    c.in-Ok-reconfigure.answer ∷ h) in
    let arrived : Arrives (machine_of c.enter.new.machine) base (g.O.Sink.contents c.enter.new.out)
    c.enter.new.page.items configs t (Err untold.WantOfMemory) =
    arrives_at (machine_of c.reconfigure.new.self) (machine_of c.enter.new.machine) base
    (g.O.Sink.contents c.args.out.now) (g.O.Sink.contents c.enter.new.out) c.args.page.now.items c.enter.new.page.items
    configs h c.latest.result
    (max c.args.now c.args.machine.now.latest) (Reconfigure c.in-Ok.named.0) c.in-Ok-reconfigure.answer
    (Err untold.WantOfMemory) moment
    (λ is w. subst (λ f. Arrives (machine_of c.enter.new.machine) base (g.O.Sink.contents c.enter.new.out)
    c.enter.new.page.items configs
    (acts configs (entry_at c.latest.result (Reconfigure c.in-Ok.named.0) c.in-Ok-reconfigure.answer ∷ h)) (Err f))
    c.in-Err-WantOfMemory-enter.field-0-is
    (c.in-Err-WantOfMemory-enter.ensures.arrives base configs h is w)) made.is at.wrote in
    front_step base (g.O.Sink.contents c.enter.new.out) c.enter.new.page.items h t
    (event_step shelf configs h c.args.number c.args.now (Reconfigure c.args.name)) step arrived

pub returns-in-Err-clause-opens : goal.returns-in-Err-clause-opens
returns-in-Err-clause-opens g c = c.in-Err.ensures.opens c.args.number

pub returns-in-Err-Refused-clause-opens : goal.returns-in-Err-Refused-clause-opens
returns-in-Err-Refused-clause-opens g c = opened_refused (g.F.Files.opened c.args.files.now)
    (g.F.Files.opened c.read_named.new.files) c.args.number (Some c.args.name) (c.in-Ok.ensures.opens c.args.number)

pub returns-in-Err-WantOfMemory-clause-opens : goal.returns-in-Err-WantOfMemory-clause-opens
returns-in-Err-WantOfMemory-clause-opens g c = opened_stops (g.F.Files.opened c.args.files.now)
    (g.F.Files.opened c.read_named.new.files) (Some c.args.name) (c.in-Ok.ensures.opens c.args.number)

pub returns-in-Ok-enter-clause-opens : goal.returns-in-Ok-enter-clause-opens
returns-in-Ok-enter-clause-opens g c = c.in-Ok.ensures.opens c.args.number

pub returns-in-Err-Failed-clause-opens : goal.returns-in-Err-Failed-clause-opens
returns-in-Err-Failed-clause-opens g c = opened_stops (g.F.Files.opened c.args.files.now)
    (g.F.Files.opened c.read_named.new.files) (Some c.args.name) (c.in-Ok.ensures.opens c.args.number)

pub returns-in-Err-WantOfMemory-enter-clause-opens : goal.returns-in-Err-WantOfMemory-enter-clause-opens
returns-in-Err-WantOfMemory-enter-clause-opens g c = opened_stops (g.F.Files.opened c.args.files.now)
    (g.F.Files.opened c.read_named.new.files) (Some c.args.name) (c.in-Ok.ensures.opens c.args.number)
