use Rattle.std.proofs.Common.{subst}
use Rattle.sq_machine.specs.declared.entries.Event.TheVariants as event
use Rattle.sq_machine.specs.declared.entries.Told.TheVariants as told
use Rattle.sq_notes.specs.Calling.{DeskView}
use Rattle.sq_desk.specs.Tells.{TellsClass}
use Rattle.sq_desk.proofs.EventLaws.{started_desk}
use Rattle.sq_desk.proofs.TellingLaws.{started_tells}
use Rattle.sq_desk.proofs.calls.DeskHelperCalls.started.Goals as goal

pub invariant_of-self : goal.invariant_of-self
invariant_of-self g c =
    started_desk (record { engine = c.self.inside.engine; notes = c.self.inside.notes })
    (record { engine = c.started.new.engine; notes = c.started.new.notes })
    (record { epoch = c.args.epoch; class = c.args.class }) c.args.now c.started.result c.self.invariant
    c.started.ensures.makes c.started.ensures.leaves

pub returns-clause-tells : goal.returns-clause-tells
returns-clause-tells g c =
    subst (λ (d : DeskView). TellsClass g.F.DeskStart.first c.args.now told.Proc (event.Started c.args.epoch)
    (record { epoch = c.args.epoch; class = c.args.class }) d
    (record { engine = c.started.new.engine; notes = c.started.new.notes }) c.started.result)
    c.self.view_is
    (started_tells (record { engine = c.self.inside.engine; notes = c.self.inside.notes })
    (record { engine = c.started.new.engine; notes = c.started.new.notes })
    (record { epoch = c.args.epoch; class = c.args.class }) c.args.now c.started.result c.self.invariant
    c.started.ensures.makes)
