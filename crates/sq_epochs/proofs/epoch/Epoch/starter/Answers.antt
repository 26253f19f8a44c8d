use Rattle.std.proofs.Common.{◌≡◌, ◌<◌, length, ap, ◌∙◌, subst}
use Rattle.std.specs.Prelude.{IfSome}
use Rattle.std.specs.Arc.{arc_value}
use Rattle.sq_epochs.specs.DueStates.{first_place, owes_start}
use Rattle.sq_epochs.proofs.MarkLaws.{first_marked, first_within}
use Rattle.sq_epochs.proofs.epoch.Epoch.starter.Goals as goal

pub returns-clause-first : goal.returns-clause-first
returns-clause-first c =
    first_marked owes_start c.self.inside.parts.items c.self.inside.due.starts c.starter.result
    c.self.invariant.due_are.starts_are c.starter.ensures.first c.starter.ensures.none
    ∙ ap (λ z. first_place owes_start z.parts) c.self.view_is

pub returns-clause-few : goal.returns-clause-few
returns-clause-few c =
    let parts = c.self.inside.parts.items in
    let due = c.self.inside.due in
    let first : c.starter.result ≡ first_place owes_start parts =
    first_marked owes_start parts due.starts c.starter.result c.self.invariant.due_are.starts_are
    c.starter.ensures.first c.starter.ensures.none in
    subst (λ z. IfSome c.starter.result (λ k. k < length z.config.classes)) c.self.view_is
    (first_within owes_start (arc_value c.self.inside.config).classes parts due c.starter.result c.self.invariant first)
