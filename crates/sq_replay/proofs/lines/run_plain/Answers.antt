use Rattle.std.proofs.Common.{◌≡◌, ◌∷◌, max, Ok, Err, subst, ◌∙◌}
use Rattle.sq_replay.specs.declared.page.Unwritten.TheVariants as untold
use Rattle.sq_replay.specs.Entering.{Arrives}
use Rattle.sq_replay.specs.MachineViews.{machine_of}
use Rattle.sq_replay.specs.Making.{IsMaking}
use Rattle.sq_replay.specs.RunText.{acts, event_step}
use Rattle.sq_replay.proofs.EnteringLaws.{arrives_at, event_front, front_step, part_step, plain_step, refusal_step}
use Rattle.sq_replay.proofs.lines.run_plain.Goals as goal
use Rattle.sq_machine.specs.Entries.{entry_at}

pub returns-in-Err-Refused-clause-goes : goal.returns-in-Err-Refused-clause-goes
returns-in-Err-Refused-clause-goes g c = λ base configs h shelf at.
    let making = subst (λ e. IsMaking (machine_of c.args.machine.now) (machine_of c.make.new.self) c.args.now
    c.args.event (Err e)) c.in-Err-Refused.field-0-is c.in-Err-Refused.ensures.making in (
      refusal_step (machine_of c.args.machine.now) shelf configs h c.args.number c.args.now c.args.event
          c.requires.plain
          at.is (making configs h at.is),
      at.wrote,
    )

pub returns-in-Err-WantOfMemory-clause-goes : goal.returns-in-Err-WantOfMemory-clause-goes
returns-in-Err-WantOfMemory-clause-goes g c = λ base configs h shelf at. event_front shelf base _ _ configs h
    c.args.number c.args.now c.args.event at.wrote

pub returns-in-Ok-enter-clause-goes : goal.returns-in-Ok-enter-clause-goes
returns-in-Ok-enter-clause-goes g c = λ base configs h shelf at.
    let made = c.in-Ok.ensures.making.1 configs h at.is in
    let moment : c.latest.result ≡ max c.args.now c.args.machine.now.latest = c.latest.ensures
    ∙ c.in-Ok.ensures.latest in
    let step = plain_step (machine_of c.args.machine.now) (machine_of c.make.new.self) shelf configs h c.args.number
    c.args.now c.args.event c.in-Ok.answer c.in-Ok.ensures.making.0 c.requires.plain at.is made in
    let t = acts configs (entry_at (max c.args.now c.args.machine.now.latest) c.args.event c.in-Ok.answer ∷ h) in
    let arrived : Arrives (machine_of c.enter.new.machine) base (g.O.Sink.contents c.enter.new.out)
    c.enter.new.page.items configs t (Ok tt) =
    arrives_at (machine_of c.make.new.self) (machine_of c.enter.new.machine) base (g.O.Sink.contents c.args.out.now)
    (g.O.Sink.contents c.enter.new.out) c.args.page.now.items c.enter.new.page.items configs h c.latest.result
    (max c.args.now c.args.machine.now.latest) c.args.event c.in-Ok.answer (Ok tt) moment
    (λ is w. c.in-Ok-enter.ensures.arrives base configs h is w) made.is at.wrote in
    (t, step, arrived)

pub returns-in-Err-Failed-clause-goes : goal.returns-in-Err-Failed-clause-goes
returns-in-Err-Failed-clause-goes g c = λ base configs h shelf at.
    let made = c.in-Ok.ensures.making.1 configs h at.is in
    let moment : c.latest.result ≡ max c.args.now c.args.machine.now.latest = c.latest.ensures
    ∙ c.in-Ok.ensures.latest in
    let step = plain_step (machine_of c.args.machine.now) (machine_of c.make.new.self) shelf configs h c.args.number
    c.args.now c.args.event c.in-Ok.answer c.in-Ok.ensures.making.0 c.requires.plain at.is made in
    let t = acts configs (entry_at (max c.args.now c.args.machine.now.latest) c.args.event c.in-Ok.answer ∷ h) in
    let arrived : Arrives (machine_of c.enter.new.machine) base (g.O.Sink.contents c.enter.new.out)
    c.enter.new.page.items configs t (Err untold.Failed) =
    arrives_at (machine_of c.make.new.self) (machine_of c.enter.new.machine) base (g.O.Sink.contents c.args.out.now)
    (g.O.Sink.contents c.enter.new.out) c.args.page.now.items c.enter.new.page.items configs h c.latest.result
    (max c.args.now c.args.machine.now.latest) c.args.event c.in-Ok.answer (Err untold.Failed) moment
    (λ is w. subst (λ f. Arrives (machine_of c.enter.new.machine) base (g.O.Sink.contents c.enter.new.out)
    c.enter.new.page.items configs (acts configs (entry_at c.latest.result c.args.event c.in-Ok.answer ∷ h)) (Err f))
    c.in-Err-Failed.field-0-is (c.in-Err-Failed.ensures.arrives base configs h is w)) made.is at.wrote in
    part_step base (g.O.Sink.contents c.enter.new.out) h t
    (event_step shelf configs h c.args.number c.args.now c.args.event) step arrived

pub returns-in-Err-WantOfMemory-enter-clause-goes : goal.returns-in-Err-WantOfMemory-enter-clause-goes
returns-in-Err-WantOfMemory-enter-clause-goes g c = λ base configs h shelf at.
    let made = c.in-Ok.ensures.making.1 configs h at.is in
    let moment : c.latest.result ≡ max c.args.now c.args.machine.now.latest = c.latest.ensures
    ∙ c.in-Ok.ensures.latest in
    let step = plain_step (machine_of c.args.machine.now) (machine_of c.make.new.self) shelf configs h c.args.number
    c.args.now c.args.event c.in-Ok.answer c.in-Ok.ensures.making.0 c.requires.plain at.is made in
    let t = acts configs (entry_at (max c.args.now c.args.machine.now.latest) c.args.event c.in-Ok.answer ∷ h) in
    let arrived : Arrives (machine_of c.enter.new.machine) base (g.O.Sink.contents c.enter.new.out)
    c.enter.new.page.items configs t (Err untold.WantOfMemory) =
    arrives_at (machine_of c.make.new.self) (machine_of c.enter.new.machine) base (g.O.Sink.contents c.args.out.now)
    (g.O.Sink.contents c.enter.new.out) c.args.page.now.items c.enter.new.page.items configs h c.latest.result
    (max c.args.now c.args.machine.now.latest) c.args.event c.in-Ok.answer (Err untold.WantOfMemory) moment
    (λ is w. subst (λ f. Arrives (machine_of c.enter.new.machine) base (g.O.Sink.contents c.enter.new.out)
    c.enter.new.page.items configs (acts configs (entry_at c.latest.result c.args.event c.in-Ok.answer ∷ h)) (Err f))
    c.in-Err-WantOfMemory-enter.field-0-is
    (c.in-Err-WantOfMemory-enter.ensures.arrives base configs h is w)) made.is at.wrote in
    front_step base (g.O.Sink.contents c.enter.new.out) c.enter.new.page.items h t
    (event_step shelf configs h c.args.number c.args.now c.args.event) step arrived
