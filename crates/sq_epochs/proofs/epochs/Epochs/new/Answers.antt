use Rattle.std.proofs.Common.{◌∷◌, ◌++◌, [], ap, ◌∙◌}
use Rattle.std.specs.Arc.{arc_value}
use Rattle.sq_epochs.proofs.HomedLaws.{first_whole}
use Rattle.sq_epochs.proofs.epochs.Epochs.new.Goals as goal

pub invariant_of-result-2 : goal.invariant_of-result-2
invariant_of-result-2 c =
    first_whole (arc_value c.args.config) c.push.new.self.items c.new-2.result.given c.new-2.result.homes
    c.new-2.result.stops
    (c.in_ok-push.ensures.items ∙ ap (λ z. z ++ c.in_ok-first.first ∷ []) c.new-epochs.ensures.items
    ∙ ap (λ z. z ∷ []) c.in_ok-first.ensures)
    c.new-2.ensures.given c.new-2.ensures.homes c.new-2.ensures.stops
