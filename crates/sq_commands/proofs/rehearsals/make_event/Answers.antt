use Rattle.std.proofs.Common.{◌≡◌, ℕ, max, List, Ok, Err, subst}
use Rattle.sq_rules.specs.Configurations.{Configuration}
use Rattle.sq_machine.specs.Entries.{History}
use Rattle.sq_replay.specs.MachineViews.{machine_of}
use Rattle.sq_replay.specs.Making.{IsLeft, IsMaking, IsRefusal}
use Rattle.sq_replay.specs.Runs.{Is, IsMade}
use Rattle.sq_commands.specs.Driving.{answered, passed}
use Rattle.sq_commands.specs.Summaries.{counted}
use Rattle.sq_commands.specs.Turns.{TurnsTo}
use Rattle.sq_commands.proofs.TurnLaws.{event_done, event_refused, on_ok, wanted_plain}
use Rattle.sq_commands.proofs.rehearsals.make_event.Goals as goal

pub returns-in-Err-Refused-clause-turns : goal.returns-in-Err-Refused-clause-turns
returns-in-Err-Refused-clause-turns c =
    let v = machine_of c.args.machine.now in
    let w = machine_of c.make.new.self in
    let d = c.args.driver.now in
    let event = c.args.event.now in
    let plain = wanted_plain d event c.requires.acting c.requires.wanted in
    let making = subst (λ x. IsMaking v w c.moment.result event (Err x)) c.in-Err-Refused.field-0-is
    c.in-Err-Refused.ensures.making in
    let left = subst (λ x. IsLeft v w (Err x)) c.in-Err-Refused.field-0-is
    (c.in-Err-Refused.ensures.left plain.engine) in
    on_ok c.passed.result (c.passed.new.self ≡ passed d)
    ((configs : List Configuration) (h : History) → Is v configs h → c.args.summary.now ≡ counted h
    → TurnsTo configs h d w c.args.summary.now c.passed.new.self)
    (λ goes configs h is counts. event_refused v w configs h d c.passed.new.self c.args.summary.now event
    c.requires.acting c.requires.wanted goes
    (subst (λ (m : ℕ). IsRefusal configs h (max m v.latest) event) c.moment.ensures (making configs h is))
    (left configs h is) is counts)
    c.passed.ensures

pub returns-clause-turns : goal.returns-clause-turns
returns-clause-turns c =
    let v = machine_of c.args.machine.now in
    let w = machine_of c.make.new.self in
    let d = c.args.driver.now in
    let event = c.args.event.now in
    let told = c.in-Ok.told in
    let making = c.in-Ok.ensures.making in
    on_ok c.answered.result (c.answered.new.self ≡ answered told d)
    ((configs : List Configuration) (h : History) → Is v configs h → c.args.summary.now ≡ counted h
    → TurnsTo configs h d w c.count.new.self c.answered.new.self)
    (λ goes configs h is counts. event_done v w configs h d c.answered.new.self c.args.summary.now c.count.new.self
    event told c.requires.acting c.requires.wanted goes c.count.ensures making.0
    (subst (λ (m : ℕ). IsMade w configs h (max m v.latest) event told) c.moment.ensures (making.1 configs h is)) is
    counts)
    c.answered.ensures
