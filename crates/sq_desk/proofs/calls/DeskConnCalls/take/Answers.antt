use Rattle.std.proofs.Common.{subst}
use Rattle.sq_machine.specs.declared.entries.Event.TheVariants as event
use Rattle.sq_calls.specs.Telling.{IsTakeTold}
use Rattle.sq_desk.proofs.NextLaws.{of_check}
use Rattle.sq_notes.specs.Calling.{DeskView}
use Rattle.sq_desk.specs.Tells.{TellsAs}
use Rattle.sq_desk.proofs.EventLaws.{take_desk}
use Rattle.sq_desk.proofs.TellingLaws.{take_tells}
use Rattle.sq_desk.proofs.calls.DeskConnCalls.take.Goals as goal

pub invariant_of-self : goal.invariant_of-self
invariant_of-self g c =
    take_desk (record { engine = c.self.inside.engine; notes = c.self.inside.notes })
    (record { engine = c.take.new.engine; notes = c.take.new.notes })
    c.args.check c.args.now c.take.result c.self.invariant c.take.ensures.makes c.take.ensures.leaves

pub returns-clause-record : goal.returns-clause-record
returns-clause-record g c =
    of_check (record { engine = c.self.inside.engine; notes = c.self.inside.notes })
    (record { engine = c.take.new.engine; notes = c.take.new.notes })
    c.args.check _ _ c.take.result c.take.ensures.makes c.take.ensures.record

pub returns-clause-tells : goal.returns-clause-tells
returns-clause-tells g c =
    subst (λ (d : DeskView). TellsAs g.F.DeskStart.first c.args.now IsTakeTold (event.Take c.args.check) d
    (record { engine = c.take.new.engine; notes = c.take.new.notes }) c.take.result)
    c.self.view_is
    (take_tells (record { engine = c.self.inside.engine; notes = c.self.inside.notes })
    (record { engine = c.take.new.engine; notes = c.take.new.notes })
    c.args.check c.args.now c.take.result c.self.invariant.replay c.take.ensures.makes)
