use Rattle.std.proofs.Common.{subst}
use Rattle.sq_machine.specs.declared.entries.Event.TheVariants as event
use Rattle.sq_machine.specs.declared.entries.Told.TheVariants as told
use Rattle.sq_notes.specs.Calling.{DeskView}
use Rattle.sq_desk.specs.Tells.{Tells}
use Rattle.sq_desk.proofs.EventLaws.{close_desk, close_place}
use Rattle.sq_desk.proofs.TellingLaws.{close_tells}
use Rattle.sq_desk.proofs.calls.DeskConnCalls.close.Goals as goal

pub close-requires : goal.close-requires
close-requires g c =
    close_place (record { engine = c.self.inside.engine; notes = c.self.inside.notes }) c.args.conn
    c.self.invariant

pub invariant_of-self : goal.invariant_of-self
invariant_of-self g c =
    close_desk (record { engine = c.self.inside.engine; notes = c.self.inside.notes })
    (record { engine = c.close.new.engine; notes = c.close.new.notes })
    c.args.conn c.args.now c.close.result c.self.invariant c.close.ensures.makes c.close.ensures.leaves

pub returns-clause-tells : goal.returns-clause-tells
returns-clause-tells g c =
    subst (λ (d : DeskView). Tells {A = Unit {0}} g.F.DeskStart.first c.args.now (λ x. told.Fine)
    (event.Close c.args.conn) d (record { engine = c.close.new.engine; notes = c.close.new.notes }) c.close.result)
    c.self.view_is
    (close_tells (record { engine = c.self.inside.engine; notes = c.self.inside.notes })
    (record { engine = c.close.new.engine; notes = c.close.new.notes })
    c.args.conn c.args.now c.close.result c.self.invariant.replay c.close.ensures.makes)
