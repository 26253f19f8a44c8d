use Rattle.std.proofs.Common.{◌≡◌, Some, ap, ◌∙◌, sym}
use Rattle.std.specs.Arc.{arc_value}
use Rattle.sq_epochs.specs.DueStates.{act_in, first_place, owes_start, start_by, told_due}
use Rattle.sq_epochs.specs.EpochStates.{EpochState}
use Rattle.sq_epochs.proofs.ActLaws.{start_told}
use Rattle.sq_epochs.proofs.epoch.Epoch.start_copy.Goals as goal

pub returns-clause-act : goal.returns-clause-act
returns-clause-act c =
    let old : EpochState = record {
      epoch = c.self.inside.number;
      config = arc_value c.self.inside.config;
      checks = c.self.inside.checks;
      parts = c.self.inside.parts.items;
    } in
    let cl = c.in_ok-class.class in
    let first : first_place owes_start old.parts ≡ Some cl = ap (λ z. first_place owes_start z.parts) c.self.view_is
    ∙ sym c.in_ok-class.ensures.first in
    sym (ap told_due (ap (act_in start_by owes_start) (sym c.self.view_is) ∙ start_told old cl first))
