use Rattle.std.proofs.Common.{max, subst, sym}
use Rattle.sq_machine.specs.declared.entries.Event.{Event}
use Rattle.sq_replay.specs.Making.{IsRefusal}
use Rattle.sq_replay.proofs.AskLaws.{begin_refused}
use Rattle.sq_replay.proofs.machines.ScriptMachine.make.Goals as goal

pub returns-in-Begin-clause-making : goal.returns-in-Begin-clause-making
returns-in-Begin-clause-making c = λ configs h is.
    subst (λ (e : Event). IsRefusal configs h (max c.args.now c.args.self.now.latest) e) (sym c.in-Begin.is)
    (begin_refused configs h (max c.args.now c.args.self.now.latest) c.in-Begin.offset)
