use Rattle.std.proofs.Common.{subst}
use Rattle.sq_machine.specs.declared.entries.Event.TheVariants as event
use Rattle.sq_machine.specs.declared.entries.Told.TheVariants as told
use Rattle.sq_notes.specs.Calling.{DeskView}
use Rattle.sq_desk.specs.Tells.{Tells}
use Rattle.sq_desk.proofs.EventLaws.{ask_desk}
use Rattle.sq_desk.proofs.TellingLaws.{ask_tells}
use Rattle.sq_desk.proofs.calls.DeskConnCalls.ask.Goals as goal

pub invariant_of-self : goal.invariant_of-self
invariant_of-self g c =
    ask_desk (record { engine = c.self.inside.engine; notes = c.self.inside.notes })
    (record { engine = c.ask.new.engine; notes = c.ask.new.notes })
    c.args.conn c.args.request.method c.args.request.target c.args.request.fields c.args.now c.ask.result
    c.self.invariant c.ask.ensures.formed c.ask.ensures.makes c.ask.ensures.leaves

pub returns-clause-tells : goal.returns-clause-tells
returns-clause-tells g c =
    subst (λ (d : DeskView). Tells g.F.DeskStart.first c.args.now told.Check
    (event.Ask c.args.conn c.args.request.method c.args.request.target c.args.request.fields) d
    (record { engine = c.ask.new.engine; notes = c.ask.new.notes }) c.ask.result)
    c.self.view_is
    (ask_tells (record { engine = c.self.inside.engine; notes = c.self.inside.notes })
    (record { engine = c.ask.new.engine; notes = c.ask.new.notes })
    c.args.conn c.args.request c.args.now c.ask.result c.self.invariant.replay c.ask.ensures.formed c.ask.ensures.makes)
