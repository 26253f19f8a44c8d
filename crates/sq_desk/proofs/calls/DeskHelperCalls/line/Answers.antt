use Rattle.std.proofs.Common.{subst}
use Rattle.sq_notes.specs.Calling.{DeskView}
use Rattle.sq_desk.specs.Tells.{TellsLine}
use Rattle.sq_desk.proofs.EventLaws.{line_desk}
use Rattle.sq_desk.proofs.TellingLaws.{line_tells}
use Rattle.sq_desk.proofs.calls.DeskHelperCalls.line.Goals as goal

pub invariant_of-self : goal.invariant_of-self
invariant_of-self g c =
    line_desk (record { engine = c.self.inside.engine; notes = c.self.inside.notes })
    (record { engine = c.line.new.engine; notes = c.line.new.notes })
    c.args.proc c.args.bytes.now c.args.now c.line.result c.self.invariant c.line.ensures.reads c.line.ensures.leaves
    c.line.ensures.promised

pub returns-clause-tells : goal.returns-clause-tells
returns-clause-tells g c =
    subst (λ (d : DeskView). TellsLine g.F.DeskStart.first c.args.now c.args.proc c.args.bytes.now d
    (record { engine = c.line.new.engine; notes = c.line.new.notes }) c.line.result)
    c.self.view_is
    (line_tells (record { engine = c.self.inside.engine; notes = c.self.inside.notes })
    (record { engine = c.line.new.engine; notes = c.line.new.notes })
    c.args.now c.args.proc c.args.bytes.now c.line.result c.self.invariant.replay c.line.ensures.reads)
