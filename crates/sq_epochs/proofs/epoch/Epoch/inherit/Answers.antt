use Rattle.std.proofs.Common.{◌≡◌, List, map, ap, ◌∙◌, sym, subst}
use Rattle.std.specs.Arc.{arc_value}
use Rattle.std.proofs.lemmas.List.{with_items_is}
use Rattle.sq_rules.specs.Classes.{Class}
use Rattle.sq_epochs.specs.DueSets.{IsEpoch}
use Rattle.sq_epochs.specs.EpochStates.{new_part}
use Rattle.sq_epochs.specs.Reconfigured.{begun_part, kept_alike}
use Rattle.sq_epochs.proofs.MarkLaws.{begun_marked}
use Rattle.sq_epochs.proofs.epoch.Epoch.inherit.Goals as goal

pub invariant_of-self : goal.invariant_of-self
invariant_of-self c =
    let classes : List Class = (arc_value c.self.inside.config).classes in
    let before = kept_alike c.args.before.now in
    let new = c.inherit_parts.new.parts in
    let were : c.self.inside.parts.items ≡ map new_part classes = ap (λ z. z.parts) (c.self.view_is ∙ c.requires)
    ∙ ap (λ z. map new_part z.config.classes) (sym c.self.view_is) in
    let are : new ≡ map (begun_part before) classes = c.inherit_parts.ensures.begun
    ∙ ap (map (begun_part before)) (c.classes.ensures.classes ∙ ap (λ z. z.classes) c.deref-2.ensures) in
    subst (λ z. IsEpoch classes z c.self.inside.due)
    (sym (with_items_is c.self.inside.parts new (c.inherit_parts.auto.parts ∙ c.deref_mut.ensures.len)))
    (begun_marked before classes c.self.inside.parts.items new c.self.inside.due c.self.invariant were are)
