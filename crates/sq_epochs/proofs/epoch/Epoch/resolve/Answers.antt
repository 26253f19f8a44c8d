use Rattle.std.proofs.Common.{◌≡◌, ◌<◌, length, refl, subst, sym, ap, ◌∙◌, Some, slice_get}
use Rattle.std.specs.Arc.{arc_value}
use Rattle.sq_epochs.specs.EpochStates.{EpochState, with_part}
use Rattle.sq_epochs.proofs.PartLaws.{class_there, limit_kept, refused, resolved, spends}
use Rattle.sq_epochs.specs.EpochProcs.{SameLiving}
use Rattle.sq_epochs.proofs.ProcLaws.{living_step, same_living}
use Rattle.sq_epochs.proofs.MarkLaws.{inside, is_few, marked}
use Rattle.sq_epochs.proofs.epoch.Epoch.resolve.Goals as goal

pub mark-requires : goal.mark-requires
mark-requires c =
    let old : EpochState = record {
      epoch = c.self.inside.number;
      config = arc_value c.self.inside.config;
      checks = c.self.inside.checks;
      parts = c.self.inside.parts.items;
    } in
    let within : c.args.class < length old.parts =
    inside old c.args.self.now c.args.class c.self.view_is c.requires.there in
    is_few old.config.classes old.parts c.self.inside.due c.args.class c.self.invariant within

pub invariant_of-self : goal.invariant_of-self
invariant_of-self c =
    let old : EpochState = record {
      epoch = c.self.inside.number;
      config = arc_value c.self.inside.config;
      checks = c.self.inside.checks;
      parts = c.self.inside.parts.items;
    } in
    let within : c.args.class < length old.parts =
    inside old c.args.self.now c.args.class c.self.view_is c.requires.there in
    marked old.config.classes old.parts c.self.inside.due c.mark.new.self c.args.class c.index_mut-part.result.now
    c.resolve-said.new.self c.self.invariant within c.index_mut-part.ensures.value
    (limit_kept c.resolve-said.result c.index-classes-class.result c.args.class c.args.key.now c.args.now c.args.check
    c.args.count c.index_mut-part.result.now c.resolve-said.new.self c.resolve-said.ensures.ok
    c.resolve-said.ensures.err) c.mark.ensures

pub returns-clause-spent : goal.returns-clause-spent
returns-clause-spent c = λ is p k at_p at_k e.
    let old : EpochState = record {
      epoch = c.self.inside.number;
      config = arc_value c.self.inside.config;
      checks = c.self.inside.checks;
      parts = c.self.inside.parts.items;
    } in
    let within : c.args.class < length old.parts =
    subst (λ z. c.args.class < length z.parts) (sym c.self.view_is) c.requires.there in
    let here : slice_get old.config.classes c.args.class ≡ Some c.index-classes-class.result =
    class_there old.config.classes c.classes.result.now old.parts c.args.class c.index-classes-class.result
    c.self.invariant.parts_are within
    (c.classes.ensures.classes ∙ ap (λ z. z.classes) c.deref.ensures) c.index-classes-class.is in
    spends c.args.class c.args.count c.args.key.now c.args.now e c.index-classes-class.result old c.args.self.now
    c.index_mut-part.result.now c.self.view_is c.requires.there c.index_mut-part.ensures.value here
    (c.resolve-said.ensures.spent is e) p k at_p at_k

pub returns-clause-ok : goal.returns-clause-ok
returns-clause-ok c =
    let old : EpochState = record {
      epoch = c.self.inside.number;
      config = arc_value c.self.inside.config;
      checks = c.self.inside.checks;
      parts = c.self.inside.parts.items;
    } in
    let within : c.args.class < length old.parts =
    subst (λ z. c.args.class < length z.parts) (sym c.self.view_is) c.requires.there in
    let here : slice_get old.config.classes c.args.class ≡ Some c.index-classes-class.result =
    class_there old.config.classes c.classes.result.now old.parts c.args.class c.index-classes-class.result
    c.self.invariant.parts_are within
    (c.classes.ensures.classes ∙ ap (λ z. z.classes) c.deref.ensures) c.index-classes-class.is in
    resolved c.resolve-said.result c.index-classes-class.result c.args.class c.args.key.now c.args.now c.args.check
    c.args.count old c.args.self.now _ c.index_mut-part.result.now c.resolve-said.new.self
    c.self.view_is c.requires.there c.index_mut-part.ensures.value refl here c.resolve-said.ensures.ok

pub returns-clause-err : goal.returns-clause-err
returns-clause-err c =
    let old : EpochState = record {
      epoch = c.self.inside.number;
      config = arc_value c.self.inside.config;
      checks = c.self.inside.checks;
      parts = c.self.inside.parts.items;
    } in
    refused c.resolve-said.result c.args.class old c.args.self.now _ c.index_mut-part.result.now c.resolve-said.new.self
    c.self.view_is c.requires.there c.index_mut-part.ensures.value refl c.resolve-said.ensures.err

pub returns-clause-alive : goal.returns-clause-alive
returns-clause-alive c =
    let old : EpochState = record {
      epoch = c.self.inside.number;
      config = arc_value c.self.inside.config;
      checks = c.self.inside.checks;
      parts = c.self.inside.parts.items;
    } in
    let p = c.index_mut-part.result.now in
    let q = c.resolve-said.new.self in
    subst (λ z. SameLiving z (with_part c.args.class q old)) c.self.view_is
    (same_living old c.args.class p q c.index_mut-part.ensures.value
    (living_step c.resolve-said.result c.index-classes-class.result c.args.class c.args.key.now c.args.now c.args.check
    c.args.count p q c.resolve-said.ensures.ok c.resolve-said.ensures.err))
