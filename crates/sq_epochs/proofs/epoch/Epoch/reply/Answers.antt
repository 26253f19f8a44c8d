use Rattle.std.proofs.Common.{◌≡◌, ◌<◌, length, refl, subst, sym, ap, ◌∙◌, Some, slice_get}
use Rattle.std.specs.Arc.{arc_value}
use Rattle.sq_class.specs.Parts.{IsAsBefore}
use Rattle.sq_epochs.specs.EpochStates.{EpochState, with_part}
use Rattle.sq_epochs.proofs.PartLaws.{class_there}
use Rattle.std.proofs.lemmas.Option.{slice_get_read}
use Rattle.sq_epochs.proofs.OutcomeLaws.{as_before, both_err, err_epoch, limit_there, replied}
use Rattle.sq_epochs.specs.EpochProcs.{SameLiving}
use Rattle.sq_epochs.proofs.ProcLaws.{living_reply, same_living}
use Rattle.sq_epochs.proofs.MarkLaws.{inside, is_few, marked}
use Rattle.sq_epochs.proofs.epoch.Epoch.reply.Goals as goal

pub reply-checks-requires-clause-opened : goal.reply-checks-requires-clause-opened
reply-checks-requires-clause-opened c =
    let old : EpochState = record {
      epoch = c.self.inside.number;
      config = arc_value c.self.inside.config;
      checks = c.self.inside.checks;
      parts = c.self.inside.parts.items;
    } in
    let within : c.args.class < length old.parts =
    subst (λ z. c.args.class < length z.parts) (sym c.self.view_is) c.requires.there in
    let here : slice_get old.config.classes c.args.class ≡ Some c.index-classes-class.result =
    class_there old.config.classes c.classes.result.now old.parts c.args.class c.index-classes-class.result
    c.self.invariant.parts_are within
    (c.classes.ensures.classes ∙ ap (λ z. z.classes) c.deref.ensures) c.index-classes-class.is in
    let p = c.index_mut-part.result.now in
    let there : slice_get old.parts c.args.class ≡ Some p =
    slice_get_read old.parts (length old.parts) c.args.class p refl within c.index_mut-part.ensures.value in
    c.requires.opened p (ap (λ z. slice_get z.parts c.args.class) (sym c.self.view_is) ∙ there)

pub reply-checks-requires-clause-limit : goal.reply-checks-requires-clause-limit
reply-checks-requires-clause-limit c =
    let old : EpochState = record {
      epoch = c.self.inside.number;
      config = arc_value c.self.inside.config;
      checks = c.self.inside.checks;
      parts = c.self.inside.parts.items;
    } in
    let within : c.args.class < length old.parts =
    subst (λ z. c.args.class < length z.parts) (sym c.self.view_is) c.requires.there in
    let here : slice_get old.config.classes c.args.class ≡ Some c.index-classes-class.result =
    class_there old.config.classes c.classes.result.now old.parts c.args.class c.index-classes-class.result
    c.self.invariant.parts_are within
    (c.classes.ensures.classes ∙ ap (λ z. z.classes) c.deref.ensures) c.index-classes-class.is in
    let p = c.index_mut-part.result.now in
    let there : slice_get old.parts c.args.class ≡ Some p =
    slice_get_read old.parts (length old.parts) c.args.class p refl within c.index_mut-part.ensures.value in
    limit_there old.config.classes old.parts c.args.class c.index-classes-class.result p c.self.invariant.parts_are here
    there

pub mark-requires : goal.mark-requires
mark-requires c =
    let old : EpochState = record {
      epoch = c.self.inside.number;
      config = arc_value c.self.inside.config;
      checks = c.self.inside.checks;
      parts = c.self.inside.parts.items;
    } in
    let within : c.args.class < length old.parts =
    inside old c.args.self.now c.args.class c.self.view_is c.requires.there in
    is_few old.config.classes old.parts c.self.inside.due c.args.class c.self.invariant within

pub invariant_of-self : goal.invariant_of-self
invariant_of-self c =
    let old : EpochState = record {
      epoch = c.self.inside.number;
      config = arc_value c.self.inside.config;
      checks = c.self.inside.checks;
      parts = c.self.inside.parts.items;
    } in
    let within : c.args.class < length old.parts =
    inside old c.args.self.now c.args.class c.self.view_is c.requires.there in
    marked old.config.classes old.parts c.self.inside.due c.mark.new.self c.args.class c.index_mut-part.result.now
    c.reply-checks.new.self c.self.invariant within c.index_mut-part.ensures.value
    (c.reply-checks.ensures.limit) c.mark.ensures

pub returns-clause-ok : goal.returns-clause-ok
returns-clause-ok c =
    let old : EpochState = record {
      epoch = c.self.inside.number;
      config = arc_value c.self.inside.config;
      checks = c.self.inside.checks;
      parts = c.self.inside.parts.items;
    } in
    let within : c.args.class < length old.parts =
    subst (λ z. c.args.class < length z.parts) (sym c.self.view_is) c.requires.there in
    let here : slice_get old.config.classes c.args.class ≡ Some c.index-classes-class.result =
    class_there old.config.classes c.classes.result.now old.parts c.args.class c.index-classes-class.result
    c.self.invariant.parts_are within
    (c.classes.ensures.classes ∙ ap (λ z. z.classes) c.deref.ensures) c.index-classes-class.is in
    let p = c.index_mut-part.result.now in
    let there : slice_get old.parts c.args.class ≡ Some p =
    slice_get_read old.parts (length old.parts) c.args.class p refl within c.index_mut-part.ensures.value in
    replied c.reply-checks.result c.index-classes-class.result c.args.class c.args.proc c.args.question c.args.key
    c.args.what c.args.date old c.args.self.now _ p c.reply-checks.new.self
    c.self.view_is c.requires.there c.index_mut-part.ensures.value refl here c.reply-checks.ensures.checks
    c.reply-checks.ensures.row c.reply-checks.ensures.waiting c.reply-checks.ensures.limit

pub returns-clause-err : goal.returns-clause-err
returns-clause-err c =
    let old : EpochState = record {
      epoch = c.self.inside.number;
      config = arc_value c.self.inside.config;
      checks = c.self.inside.checks;
      parts = c.self.inside.parts.items;
    } in
    let p = c.index_mut-part.result.now in
    let q = c.reply-checks.new.self in
    err_epoch c.reply-checks.result old c.args.self.now _ c.args.class c.index_mut-part.result.now
    c.reply-checks.new.self IsAsBefore c.self.view_is c.requires.there c.index_mut-part.ensures.value refl
    (both_err c.reply-checks.result (q ≡ p) (q ≡ p) (IsAsBefore p q) c.reply-checks.ensures.err
    c.reply-checks.ensures.err (λ e f. as_before p q e))

pub returns-clause-alive : goal.returns-clause-alive
returns-clause-alive c =
    let old : EpochState = record {
      epoch = c.self.inside.number;
      config = arc_value c.self.inside.config;
      checks = c.self.inside.checks;
      parts = c.self.inside.parts.items;
    } in
    let p = c.index_mut-part.result.now in
    let q = c.reply-checks.new.self in
    subst (λ z. SameLiving z (with_part c.args.class q old)) c.self.view_is
    (same_living old c.args.class p q c.index_mut-part.ensures.value
    (living_reply c.reply-checks.result c.index-classes-class.result c.args.proc c.args.question c.args.key c.args.what
    c.args.date p q c.reply-checks.ensures.row c.reply-checks.ensures.err))
