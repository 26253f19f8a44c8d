use Rattle.std.proofs.Common.{subst}
use Rattle.sq_notes.specs.Calling.{DeskView}
use Rattle.sq_desk.specs.Tells.{TellsAct}
use Rattle.sq_desk.proofs.EventLaws.{act_desk}
use Rattle.sq_desk.proofs.TellingLaws.{act_tells}
use Rattle.sq_desk.proofs.calls.DeskHelperCalls.act.Goals as goal

pub invariant_of-self : goal.invariant_of-self
invariant_of-self g c =
    act_desk (record { engine = c.self.inside.engine; notes = c.self.inside.notes })
    (record { engine = c.act.new.engine; notes = c.act.new.notes })
    c.args.now c.act.result c.self.invariant c.act.ensures.acts c.act.ensures.leaves c.act.ensures.promised

pub returns-clause-tells : goal.returns-clause-tells
returns-clause-tells g c =
    subst (λ (d : DeskView). TellsAct g.F.DeskStart.first c.args.now d
    (record { engine = c.act.new.engine; notes = c.act.new.notes }) c.act.result)
    c.self.view_is
    (act_tells (record { engine = c.self.inside.engine; notes = c.self.inside.notes })
    (record { engine = c.act.new.engine; notes = c.act.new.notes })
    c.args.now c.act.result c.self.invariant.replay c.act.ensures.acts c.act.ensures.promised)
