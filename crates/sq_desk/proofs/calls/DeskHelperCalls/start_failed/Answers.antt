use Rattle.std.proofs.Common.{subst}
use Rattle.sq_machine.specs.declared.entries.Event.TheVariants as event
use Rattle.sq_machine.specs.declared.entries.Told.TheVariants as told
use Rattle.sq_notes.specs.Calling.{DeskView}
use Rattle.sq_desk.specs.Tells.{TellsClass}
use Rattle.sq_desk.proofs.EventLaws.{failed_desk}
use Rattle.sq_desk.proofs.TellingLaws.{failed_tells}
use Rattle.sq_desk.proofs.calls.DeskHelperCalls.start_failed.Goals as goal

pub invariant_of-self : goal.invariant_of-self
invariant_of-self g c =
    failed_desk (record { engine = c.self.inside.engine; notes = c.self.inside.notes })
    (record { engine = c.start_failed.new.engine; notes = c.start_failed.new.notes })
    (record { epoch = c.args.epoch; class = c.args.class }) c.args.now c.start_failed.result c.self.invariant
    c.start_failed.ensures.makes c.start_failed.ensures.leaves

pub returns-clause-tells : goal.returns-clause-tells
returns-clause-tells g c =
    subst (λ (d : DeskView). TellsClass {A = Unit {0}} g.F.DeskStart.first c.args.now (λ x. told.Fine)
    (event.StartFail c.args.epoch)
    (record { epoch = c.args.epoch; class = c.args.class }) d
    (record { engine = c.start_failed.new.engine; notes = c.start_failed.new.notes }) c.start_failed.result)
    c.self.view_is
    (failed_tells (record { engine = c.self.inside.engine; notes = c.self.inside.notes })
    (record { engine = c.start_failed.new.engine; notes = c.start_failed.new.notes })
    (record { epoch = c.args.epoch; class = c.args.class }) c.args.now c.start_failed.result c.self.invariant
    c.start_failed.ensures.makes)
