use Rattle.std.proofs.Common.{ap, refl, subst}
use Rattle.sq_machine.specs.Living.{lives}
use Rattle.std.specs.Arc.{arc_value}
use Rattle.sq_epochs.specs.EpochStates.{EpochState, with_part}
use Rattle.sq_epochs.specs.EpochChanges.{HasLeft}
use Rattle.sq_epochs.proofs.PartLaws.{epoch_changed}
use Rattle.sq_epochs.specs.EpochProcs.{SameLiving}
use Rattle.sq_epochs.proofs.ProcLaws.{same_living}
use Rattle.sq_epochs.proofs.MarkLaws.{unmarked}
use Rattle.sq_epochs.proofs.epoch.Epoch.leave.Goals as goal

pub invariant_of-self : goal.invariant_of-self
invariant_of-self c =
    unmarked (arc_value c.self.inside.config).classes c.self.inside.parts.items c.self.inside.due c.args.class
    c.index_mut-part.result.now c.leave.new.self c.self.invariant c.index_mut-part.ensures.value
    c.leave.ensures.limit (ap (λ r. r.stock) c.leave.ensures.row)

pub returns-clause-changed : goal.returns-clause-changed
returns-clause-changed c =
    let old : EpochState = record {
      epoch = c.self.inside.number;
      config = arc_value c.self.inside.config;
      checks = c.self.inside.checks;
      parts = c.self.inside.parts.items;
    } in
    epoch_changed old c.args.self.now _ c.args.class c.index_mut-part.result.now c.leave.new.self (HasLeft c.args.check)
    c.self.view_is c.requires.there c.index_mut-part.ensures.value
    (record { row_is = c.leave.ensures.row; waiting_are = c.leave.ensures.waiting; limit_is = c.leave.ensures.limit })
    refl

pub returns-clause-alive : goal.returns-clause-alive
returns-clause-alive c =
    let old : EpochState = record {
      epoch = c.self.inside.number;
      config = arc_value c.self.inside.config;
      checks = c.self.inside.checks;
      parts = c.self.inside.parts.items;
    } in
    let p = c.index_mut-part.result.now in
    let q = c.leave.new.self in
    subst (λ z. SameLiving z (with_part c.args.class q old)) c.self.view_is
    (same_living old c.args.class p q c.index_mut-part.ensures.value
    (λ k. ap (λ x. lives k x.stock.procs) c.leave.ensures.row))
