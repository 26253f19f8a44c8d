use Rattle.std.proofs.Common.{◌≡◌, ◌&&◌, if◌then◌else◌, Some, None, ℕ, [], refl, subst, ◌<◌, length}
use Rattle.sq_base.specs.declared.helpers.Cause.TheVariants as cause
use Rattle.std.specs.Arc.{arc_value}
use Rattle.sq_epochs.specs.EpochChanges.{HasFailed, HasNoStart}
use Rattle.sq_epochs.specs.EpochStates.{EpochState, with_part}
use Rattle.sq_machine.specs.Farms.{failed, is_last_start}
use Rattle.sq_model.specs.ClassRows.{after_failed, is_waiting}
use Rattle.sq_class.specs.Losing.{handed_out, lost_cause}
use Rattle.sq_epochs.proofs.OutcomeLaws.{both_err, err_epoch, fail_limit, ok_epoch, three_ok}
use Rattle.sq_epochs.specs.EpochProcs.{SameLiving}
use Rattle.sq_epochs.proofs.ProcLaws.{living_failed, same_living}
use Rattle.sq_epochs.proofs.MarkLaws.{inside, is_few, marked}
use Rattle.sq_epochs.proofs.epoch.Epoch.start_failed.Goals as goal

pub mark-requires : goal.mark-requires
mark-requires c =
    let old : EpochState = record {
      epoch = c.self.inside.number;
      config = arc_value c.self.inside.config;
      checks = c.self.inside.checks;
      parts = c.self.inside.parts.items;
    } in
    let within : c.args.class < length old.parts =
    inside old c.args.self.now c.args.class c.self.view_is c.requires.there in
    is_few old.config.classes old.parts c.self.inside.due c.args.class c.self.invariant within

pub invariant_of-self : goal.invariant_of-self
invariant_of-self c =
    let old : EpochState = record {
      epoch = c.self.inside.number;
      config = arc_value c.self.inside.config;
      checks = c.self.inside.checks;
      parts = c.self.inside.parts.items;
    } in
    let within : c.args.class < length old.parts =
    inside old c.args.self.now c.args.class c.self.view_is c.requires.there in
    marked old.config.classes old.parts c.self.inside.due c.mark.new.self c.args.class c.index_mut-part.result.now
    c.start_failed-failed.new.self c.self.invariant within c.index_mut-part.ensures.value
    (fail_limit c.start_failed-failed.result c.index_mut-part.result.now c.start_failed-failed.new.self
    c.start_failed-failed.ensures.ok c.start_failed-failed.ensures.err) c.mark.ensures

pub returns-clause-ok : goal.returns-clause-ok
returns-clause-ok c =
    let old : EpochState = record {
      epoch = c.self.inside.number;
      config = arc_value c.self.inside.config;
      checks = c.self.inside.checks;
      parts = c.self.inside.parts.items;
    } in
    let p = c.index_mut-part.result.now in
    let q = c.start_failed-failed.new.self in
    ok_epoch c.start_failed-failed.result old c.args.self.now _ c.args.class c.index_mut-part.result.now
    c.start_failed-failed.new.self HasFailed c.self.view_is c.requires.there c.index_mut-part.ensures.value refl
    (three_ok c.start_failed-failed.result (q ≡ record p { row = record p.row { stock = failed p.row.stock } })
    (p.row.stock.losses ≡ [] → handed_out q.row ≡ after_failed p.row)
    (p.row.stock.losses ≡ [] → (n : ℕ)
    → lost_cause n q.row.stock.losses
    ≡ (if is_last_start p.row.stock && is_waiting n p.row.stock.queue then Some cause.NoHelper else None))
    (HasFailed p q) c.start_failed-failed.ensures.ok c.start_failed-failed.ensures.after
    c.start_failed-failed.ensures.lost
    (λ a b d. record { value = a; after = b; lost = d }))

pub returns-clause-err : goal.returns-clause-err
returns-clause-err c =
    let old : EpochState = record {
      epoch = c.self.inside.number;
      config = arc_value c.self.inside.config;
      checks = c.self.inside.checks;
      parts = c.self.inside.parts.items;
    } in
    let p = c.index_mut-part.result.now in
    let q = c.start_failed-failed.new.self in
    err_epoch c.start_failed-failed.result old c.args.self.now _ c.args.class c.index_mut-part.result.now
    c.start_failed-failed.new.self HasNoStart c.self.view_is c.requires.there c.index_mut-part.ensures.value refl
    (both_err c.start_failed-failed.result (p.row.stock.starting ≡ 0) (q ≡ p) (HasNoStart p q)
    c.start_failed-failed.ensures.sure c.start_failed-failed.ensures.err (λ a b. record { none = a; same = b }))

pub returns-clause-alive : goal.returns-clause-alive
returns-clause-alive c =
    let old : EpochState = record {
      epoch = c.self.inside.number;
      config = arc_value c.self.inside.config;
      checks = c.self.inside.checks;
      parts = c.self.inside.parts.items;
    } in
    let p = c.index_mut-part.result.now in
    let q = c.start_failed-failed.new.self in
    subst (λ z. SameLiving z (with_part c.args.class q old)) c.self.view_is
    (same_living old c.args.class p q c.index_mut-part.ensures.value
    (living_failed c.start_failed-failed.result p q c.start_failed-failed.ensures.ok c.start_failed-failed.ensures.err))
