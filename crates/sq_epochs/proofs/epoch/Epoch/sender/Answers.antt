use Rattle.std.proofs.Common.{◌≡◌, ◌<◌, length, ap, ◌∙◌, subst}
use Rattle.std.specs.Prelude.{IfSome}
use Rattle.std.specs.Arc.{arc_value}
use Rattle.sq_epochs.specs.DueStates.{first_place, owes_send}
use Rattle.sq_epochs.proofs.MarkLaws.{first_marked, first_within}
use Rattle.sq_epochs.proofs.epoch.Epoch.sender.Goals as goal

pub returns-clause-first : goal.returns-clause-first
returns-clause-first c =
    first_marked owes_send c.self.inside.parts.items c.self.inside.due.sends c.sender.result
    c.self.invariant.due_are.sends_are c.sender.ensures.first c.sender.ensures.none
    ∙ ap (λ z. first_place owes_send z.parts) c.self.view_is

pub returns-clause-few : goal.returns-clause-few
returns-clause-few c =
    let parts = c.self.inside.parts.items in
    let due = c.self.inside.due in
    let first : c.sender.result ≡ first_place owes_send parts =
    first_marked owes_send parts due.sends c.sender.result c.self.invariant.due_are.sends_are c.sender.ensures.first
    c.sender.ensures.none in
    subst (λ z. IfSome c.sender.result (λ k. k < length z.config.classes)) c.self.view_is
    (first_within owes_send (arc_value c.self.inside.config).classes parts due c.sender.result c.self.invariant first)
