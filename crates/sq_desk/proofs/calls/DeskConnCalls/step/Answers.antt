use Rattle.std.proofs.Common.{subst}
use Rattle.sq_machine.specs.declared.entries.Event.TheVariants as event
use Rattle.sq_calls.specs.Telling.{IsStepTold}
use Rattle.sq_notes.specs.Calling.{DeskView}
use Rattle.sq_desk.specs.Tells.{TellsAs}
use Rattle.sq_desk.proofs.EventLaws.{step_desk}
use Rattle.sq_desk.proofs.TellingLaws.{step_tells}
use Rattle.sq_desk.proofs.calls.DeskConnCalls.step.Goals as goal

pub invariant_of-self : goal.invariant_of-self
invariant_of-self g c =
    step_desk (record { engine = c.self.inside.engine; notes = c.self.inside.notes })
    (record { engine = c.step.new.engine; notes = c.step.new.notes })
    c.args.check c.args.now c.step.result c.self.invariant c.step.ensures.makes c.step.ensures.leaves

pub returns-clause-tells : goal.returns-clause-tells
returns-clause-tells g c =
    subst (λ (d : DeskView). TellsAs g.F.DeskStart.first c.args.now IsStepTold (event.Step c.args.check) d
    (record { engine = c.step.new.engine; notes = c.step.new.notes }) c.step.result)
    c.self.view_is
    (step_tells (record { engine = c.self.inside.engine; notes = c.self.inside.notes })
    (record { engine = c.step.new.engine; notes = c.step.new.notes })
    c.args.check c.args.now c.step.result c.self.invariant.replay c.step.ensures.makes)
