use Rattle.std.proofs.Common.{subst}
use Rattle.sq_machine.specs.declared.entries.Event.TheVariants as event
use Rattle.sq_machine.specs.declared.entries.Told.TheVariants as told
use Rattle.sq_notes.specs.Calling.{DeskView}
use Rattle.sq_desk.specs.Tells.{Tells}
use Rattle.sq_desk.proofs.EventLaws.{open_desk}
use Rattle.sq_desk.proofs.TellingLaws.{open_tells}
use Rattle.sq_desk.proofs.calls.DeskConnCalls.open.Goals as goal

pub invariant_of-self : goal.invariant_of-self
invariant_of-self g c =
    open_desk (record { engine = c.self.inside.engine; notes = c.self.inside.notes })
    (record { engine = c.open.new.engine; notes = c.open.new.notes })
    c.args.conn c.args.addr c.args.port c.args.now c.open.result c.self.invariant c.open.ensures.makes
    c.open.ensures.leaves

pub returns-clause-tells : goal.returns-clause-tells
returns-clause-tells g c =
    subst (λ (d : DeskView). Tells {A = Unit {0}} g.F.DeskStart.first c.args.now (λ x. told.Fine)
    (event.Open c.args.conn c.args.addr c.args.port) d (record
    { engine = c.open.new.engine; notes = c.open.new.notes }) c.open.result)
    c.self.view_is
    (open_tells (record { engine = c.self.inside.engine; notes = c.self.inside.notes })
    (record { engine = c.open.new.engine; notes = c.open.new.notes })
    c.args.conn c.args.addr c.args.port c.args.now c.open.result c.self.invariant.replay c.open.ensures.makes)
