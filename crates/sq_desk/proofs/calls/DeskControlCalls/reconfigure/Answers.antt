use Rattle.std.proofs.Common.{subst}
use Rattle.sq_notes.specs.Calling.{DeskView}
use Rattle.sq_desk.specs.Tells.{TellsReread}
use Rattle.sq_desk.proofs.EventLaws.{reconfigured_desk}
use Rattle.sq_desk.proofs.TellingLaws.{reread_tells}
use Rattle.sq_desk.proofs.calls.DeskControlCalls.reconfigure.Goals as goal

pub invariant_of-self : goal.invariant_of-self
invariant_of-self g c =
    reconfigured_desk (record { engine = c.self.inside.engine; notes = c.self.inside.notes })
    (record { engine = c.reconfigure.new.engine; notes = c.reconfigure.new.notes })
    c.args.setup c.args.now c.reconfigure.result c.self.invariant c.good.ensures c.requires
    c.reconfigure.ensures.rereads c.reconfigure.ensures.leaves

pub returns-clause-tells : goal.returns-clause-tells
returns-clause-tells g c =
    subst (λ (d : DeskView). TellsReread g.F.DeskStart.first c.args.setup c.args.now d
    (record { engine = c.reconfigure.new.engine; notes = c.reconfigure.new.notes }) c.reconfigure.result)
    c.self.view_is
    (reread_tells (record { engine = c.self.inside.engine; notes = c.self.inside.notes })
    (record { engine = c.reconfigure.new.engine; notes = c.reconfigure.new.notes })
    c.args.setup c.args.now c.reconfigure.result c.self.invariant c.reconfigure.ensures.rereads)
