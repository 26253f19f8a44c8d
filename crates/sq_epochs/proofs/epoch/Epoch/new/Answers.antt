use Rattle.std.proofs.Common.{◌≤◌, length, ap, ◌∙◌, map, subst}
use Rattle.std.specs.Arc.{arc_value}
use Rattle.sq_rules.specs.Limits.{most_classes}
use Rattle.sq_epochs.specs.DueSets.{IsDueOf}
use Rattle.sq_epochs.specs.EpochStates.{new_part}
use Rattle.sq_epochs.proofs.MarkLaws.{new_marked}
use Rattle.sq_epochs.proofs.epoch.Epoch.new.Goals as goal

pub invariant_of-result : goal.invariant_of-result
invariant_of-result c =
    let same = c.classes.ensures.classes ∙ ap (λ z. z.classes) c.deref.ensures in
    new_marked (arc_value c.args.config).classes c.in_ok-parts.parts.items c.of-due.result
    (c.in_ok-parts.ensures ∙ ap (map new_part) same)
    (subst (λ z. length z ≤ most_classes) same c.classes.ensures.few)
    (subst (λ z. IsDueOf z c.of-due.result) c.deref-2.ensures.value c.of-due.ensures)
