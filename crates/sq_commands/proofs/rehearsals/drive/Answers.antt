use Rattle.std.proofs.Common.{arith, subst}
use Rattle.sq_replay.specs.MachineViews.{machine_of}
use Rattle.sq_commands.specs.Turns.{Turned}
use Rattle.sq_commands.proofs.LoopLaws.{going_end, going_next, going_over}
use Rattle.sq_commands.proofs.rehearsals.drive.Goals as goal

pub returns-in-Ok-false : goal.returns-in-Ok-false
returns-in-Ok-false c = λ configs h is counts.
    let w = machine_of c.turn.new.machine in
    going_over configs h c.args.turns c.args.driver.now (machine_of c.turns.machine) w c.turns.summary
    c.turn.new.summary c.turns.driver c.turn.new.driver c.turns.left
    (λ g here so. subst (Turned configs g c.turns.driver w c.turn.new.summary c.turn.new.driver)
    c.in-Ok-false.field-0-test (c.in-Ok-false.ensures.turns configs g here so))
    (c.turns.invariant.goes configs h is counts)

pub turns-preserved : goal.turns-preserved
turns-preserved c = record {
  room = omega (arith, c.turns.invariant.room, c.in-Ok-true.ensures.few, c.turns-test.true);
  goes = λ configs h is counts.
      let w = machine_of c.turn.new.machine in
      going_next configs h c.args.turns c.args.driver.now (machine_of c.turns.machine) w c.turns.summary
      c.turn.new.summary c.turns.driver c.turn.new.driver c.turns.left c.turns-test.true
      (λ g here so. subst (Turned configs g c.turns.driver w c.turn.new.summary c.turn.new.driver)
      c.in-Ok-true.field-0-test (c.in-Ok-true.ensures.turns configs g here so))
      (c.turns.invariant.goes configs h is counts);
}

pub returns : goal.returns
returns c = λ configs h is counts.
    going_end configs h c.args.turns c.args.driver.now (machine_of c.turns.machine) c.turns.summary c.turns.driver
    c.turns.left (omega (arith, c.turns-test.false)) (c.turns.invariant.goes configs h is counts)
