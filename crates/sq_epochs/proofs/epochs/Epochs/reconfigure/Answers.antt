use Rattle.std.proofs.Common.{◌≡◌, is_some, refl, sym, subst, ap, ◌∙◌, map}
use Rattle.std.specs.Arc.{arc_value}
use Rattle.sq_machine.specs.Rising.{Rises}
use Rattle.sq_epochs.specs.EpochStates.{EpochsState, epoch_in, epoch_number}
use Rattle.sq_epochs.specs.LiveEpochs.{checks_at, without_epoch}
use Rattle.sq_epochs.specs.Reconfigured.{with_begun}
use Rattle.sq_epochs.proofs.BegunLaws.{begun_before, begun_rise, next_number, some_checks}
use Rattle.sq_epochs.proofs.HomedLaws.{begun_whole, left_whole}
use Rattle.sq_epochs.proofs.epochs.Epochs.reconfigure.Goals as goal

pub drop_epoch-requires-clause-rise : goal.drop_epoch-requires-clause-rise
drop_epoch-requires-clause-rise c =
    let v : EpochsState = record {
      current = c.self.inside.current;
      epochs = c.self.inside.epochs.items;
      procs = c.self.inside.homes.given;
      homes = c.self.inside.homes.homes;
      stops = c.self.inside.homes.stops;
    } in
    let made : c.put_behind.new.epochs.items ≡ with_begun v.current (arc_value c.args.config) v.epochs =
    c.put_behind.ensures ∙ ap (λ z. with_begun v.current z.config c.reserve.new.self.items) c.in_ok-begun.ensures
    ∙ ap (with_begun v.current (arc_value c.args.config)) c.reserve.ensures.items in
    subst (λ z. Rises (map epoch_number z)) (sym made) (begun_rise (arc_value c.args.config) v c.self.invariant.live)

pub drop_epoch-requires-clause-there : goal.drop_epoch-requires-clause-there
drop_epoch-requires-clause-there c =
    let v : EpochsState = record {
      current = c.self.inside.current;
      epochs = c.self.inside.epochs.items;
      procs = c.self.inside.homes.given;
      homes = c.self.inside.homes.homes;
      stops = c.self.inside.homes.stops;
    } in
    let made : c.put_behind.new.epochs.items ≡ with_begun v.current (arc_value c.args.config) v.epochs =
    c.put_behind.ensures ∙ ap (λ z. with_begun v.current z.config c.reserve.new.self.items) c.in_ok-begun.ensures
    ∙ ap (with_begun v.current (arc_value c.args.config)) c.reserve.ensures.items in
    ap (λ z. is_some (epoch_in v.current z)) made ∙ begun_before (arc_value c.args.config) v c.self.invariant.live

pub invariant_of-self-then-checks-eq0 : goal.invariant_of-self-then-checks-eq0
invariant_of-self-then-checks-eq0 c =
    let v : EpochsState = record {
      current = c.self.inside.current;
      epochs = c.self.inside.epochs.items;
      procs = c.self.inside.homes.given;
      homes = c.self.inside.homes.homes;
      stops = c.self.inside.homes.stops;
    } in
    let made : c.put_behind.new.epochs.items ≡ with_begun v.current (arc_value c.args.config) v.epochs =
    c.put_behind.ensures ∙ ap (λ z. with_begun v.current z.config c.reserve.new.self.items) c.in_ok-begun.ensures
    ∙ ap (with_begun v.current (arc_value c.args.config)) c.reserve.ensures.items in
    left_whole (arc_value c.args.config) v _ c.self.invariant
    (next_number c.before-2.inside.0 v.current c.before-2.view_is)
    (c.drop_epoch.ensures.epochs ∙ ap (without_epoch v.current) made)
    c.drop_epoch.ensures.given c.drop_epoch.ensures.homes c.drop_epoch.ensures.stops

pub invariant_of-self-else-checks-eq0 : goal.invariant_of-self-else-checks-eq0
invariant_of-self-else-checks-eq0 c =
    let v : EpochsState = record {
      current = c.self.inside.current;
      epochs = c.self.inside.epochs.items;
      procs = c.self.inside.homes.given;
      homes = c.self.inside.homes.homes;
      stops = c.self.inside.homes.stops;
    } in
    let made : c.put_behind.new.epochs.items ≡ with_begun v.current (arc_value c.args.config) v.epochs =
    c.put_behind.ensures ∙ ap (λ z. with_begun v.current z.config c.reserve.new.self.items) c.in_ok-begun.ensures
    ∙ ap (with_begun v.current (arc_value c.args.config)) c.reserve.ensures.items in
    begun_whole (arc_value c.args.config) v _ c.self.invariant
    (some_checks c.checks-checks.result (checks_at v v.current)
    (c.checks-checks.ensures ∙ sym (ap (λ z. checks_at z v.current) c.self.view_is)) c.if-checks-eq0.false)
    (next_number c.before-2.inside.0 v.current c.before-2.view_is) made refl refl refl
