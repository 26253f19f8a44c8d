use Rattle.std.proofs.Common.{◌≡◌, List, refl, sym, ap, ◌∙◌, true, Some, slice_get}
use Rattle.std.specs.Arc.{arc_value}
use Rattle.sq_rules.specs.Classes.{Class}
use Rattle.sq_rules.specs.Configurations.{have_distinct_names}
use Rattle.sq_epochs.specs.EpochStates.{EpochState, part_limit}
use Rattle.sq_epochs.specs.Reconfigured.{alike_in}
use Rattle.sq_epochs.proofs.InheritLaws.{alike_limit, alike_part, handed_epoch, kept_here, unhanded}
use Rattle.sq_epochs.proofs.MarkLaws.{unmarked}
use Rattle.sq_epochs.proofs.epoch.Epoch.hand_on.Goals as goal

pub returns-in_default-clause-left : goal.returns-in_default-clause-left
returns-in_default-clause-left c =
    let old : EpochState = record {
      epoch = c.self.inside.number;
      config = arc_value c.self.inside.config;
      checks = c.self.inside.checks;
      parts = c.self.inside.parts.items;
    } in
    unhanded old c.args.self.now c.classes.result.now c.args.class.now c.self.view_is
    (c.classes.ensures.classes ∙ ap (λ z. z.classes) c.deref-2.ensures) (sym c.in_default.ensures.first)

pub exchange_kept-requires : goal.exchange_kept-requires
exchange_kept-requires c =
    let classes : List Class = (arc_value c.self.inside.config).classes in
    let at : alike_in classes c.args.class.now ≡ Some c.in-Some.place =
    sym (ap (λ z. alike_in z c.args.class.now) (c.classes.ensures.classes ∙ ap (λ z. z.classes) c.deref-2.ensures))
    ∙ sym c.in-Some.ensures.first in
    alike_limit classes c.self.inside.parts.items c.args.class.now c.in-Some.place c.index_mut-own.result.now
    c.self.invariant.parts_are at c.index_mut-own.ensures.value ∙ sym c.requires.fits

pub invariant_of-self : goal.invariant_of-self
invariant_of-self c =
    unmarked (arc_value c.self.inside.config).classes c.self.inside.parts.items c.self.inside.due c.in-Some.place
    c.index_mut-own.result.now c.exchange_kept.new.self c.self.invariant c.index_mut-own.ensures.value
    (ap part_limit c.exchange_kept.ensures.here) (ap (λ z. z.row.stock) c.exchange_kept.ensures.here)

pub returns-clause-part : goal.returns-clause-part
returns-clause-part c =
    let old : EpochState = record {
      epoch = c.self.inside.number;
      config = arc_value c.self.inside.config;
      checks = c.self.inside.checks;
      parts = c.self.inside.parts.items;
    } in
    let at : alike_in old.config.classes c.args.class.now ≡ Some c.in-Some.place =
    sym (ap (λ z. alike_in z c.args.class.now) (c.classes.ensures.classes ∙ ap (λ z. z.classes) c.deref-2.ensures))
    ∙ sym c.in-Some.ensures.first in
    let there : slice_get old.parts c.in-Some.place ≡ Some c.index_mut-own.result.now =
    alike_part old.config.classes old.parts c.args.class.now c.in-Some.place c.index_mut-own.result.now
    c.self.invariant.parts_are at c.index_mut-own.ensures.value in
    c.exchange_kept.ensures.there
    ∙ ap (λ z. record c.args.part.now { row = record c.args.part.now.row { kept = z } })
    (kept_here old c.args.self.now old.config.classes c.args.class.now c.in-Some.place c.index_mut-own.result.now
    c.self.view_is refl at there)

pub returns-clause-left : goal.returns-clause-left
returns-clause-left c =
    let old : EpochState = record {
      epoch = c.self.inside.number;
      config = arc_value c.self.inside.config;
      checks = c.self.inside.checks;
      parts = c.self.inside.parts.items;
    } in
    let at : alike_in old.config.classes c.args.class.now ≡ Some c.in-Some.place =
    sym (ap (λ z. alike_in z c.args.class.now) (c.classes.ensures.classes ∙ ap (λ z. z.classes) c.deref-2.ensures))
    ∙ sym c.in-Some.ensures.first in
    let there : slice_get old.parts c.in-Some.place ≡ Some c.index_mut-own.result.now =
    alike_part old.config.classes old.parts c.args.class.now c.in-Some.place c.index_mut-own.result.now
    c.self.invariant.parts_are at c.index_mut-own.ensures.value in
    let own : have_distinct_names old.config.classes ≡ true =
    sym (ap (λ z. have_distinct_names z.classes) c.deref.ensures) ∙ c.facts.ensures.class_names in
    handed_epoch old c.args.self.now old.config.classes c.args.class.now c.in-Some.place c.index_mut-own.result.now
    c.exchange_kept.new.self c.self.view_is refl own at there
    (c.exchange_kept.ensures.here
    ∙ ap (λ z. record c.index_mut-own.result.now { row = record c.index_mut-own.result.now.row { kept = z } })
    c.requires.empty)
