use Rattle.std.proofs.Common.{subst}
use Rattle.sq_machine.specs.declared.entries.Event.TheVariants as event
use Rattle.sq_machine.specs.declared.entries.Told.TheVariants as told
use Rattle.sq_notes.specs.Calling.{DeskView}
use Rattle.sq_desk.specs.Tells.{Tells}
use Rattle.sq_desk.proofs.EventLaws.{death_place, died_desk}
use Rattle.sq_desk.proofs.TellingLaws.{died_tells}
use Rattle.sq_desk.proofs.calls.DeskHelperCalls.died.Goals as goal

pub died-requires : goal.died-requires
died-requires g c =
    death_place (record { engine = c.self.inside.engine; notes = c.self.inside.notes }) c.args.proc
    c.self.invariant

pub invariant_of-self : goal.invariant_of-self
invariant_of-self g c =
    died_desk (record { engine = c.self.inside.engine; notes = c.self.inside.notes })
    (record { engine = c.died.new.engine; notes = c.died.new.notes })
    c.args.proc c.args.now c.died.result c.self.invariant c.died.ensures.makes c.died.ensures.leaves

pub returns-clause-tells : goal.returns-clause-tells
returns-clause-tells g c =
    subst (λ (d : DeskView). Tells {A = Unit {0}} g.F.DeskStart.first c.args.now (λ x. told.Fine)
    (event.Died c.args.proc) d (record { engine = c.died.new.engine; notes = c.died.new.notes }) c.died.result)
    c.self.view_is
    (died_tells (record { engine = c.self.inside.engine; notes = c.self.inside.notes })
    (record { engine = c.died.new.engine; notes = c.died.new.notes })
    c.args.proc c.args.now c.died.result c.self.invariant.replay c.died.ensures.makes)
