use Rattle.std.proofs.Common.{◌≡◌, Some, None, length, set, refl, ap, ◌∙◌, sym}
use Rattle.std.specs.List.{slice_get}
use Rattle.std.proofs.lemmas.Option.{slice_get_read, slice_get_within}
use Rattle.sq_machine.specs.DueActs.{first_made}
use Rattle.sq_epochs.specs.DueStates.{act_at, act_in, after_due, first_place, has_act, live_places, owes_start, start_by, told_due}
use Rattle.sq_epochs.specs.EpochStates.{EpochsState}
use Rattle.sq_epochs.proofs.DueLaws.{act_lifted, all_made, all_nothing, first_is, start_agrees, start_of_epoch}
use Rattle.sq_epochs.proofs.HomedLaws.{still_whole}
use Rattle.sq_epochs.proofs.epochs.Epochs.start.Goals as goal

pub returns-in_err-place-clause-act : goal.returns-in_err-place-clause-act
returns-in_err-place-clause-act c =
    let v : EpochsState = record {
      current = c.self.inside.current;
      epochs = c.self.inside.epochs.items;
      procs = c.self.inside.homes.given;
      homes = c.self.inside.homes.homes;
      stops = c.self.inside.homes.stops;
    } in
    let none : first_place (has_act owes_start) v.epochs ≡ None =
    sym (c.in_err-place.ensures.first ∙ ap (first_place (has_act owes_start)) c.deref.ensures.value) in
    let nothing = ap (λ z. first_made (act_at start_by z) (live_places z)) (sym c.self.view_is)
    ∙ all_nothing start_by owes_start start_agrees v c.self.invariant.live.rise none in
    c.from_residual.ensures ∙ sym (ap told_due nothing)

pub returns-in_err-place-clause-value : goal.returns-in_err-place-clause-value
returns-in_err-place-clause-value c =
    let v : EpochsState = record {
      current = c.self.inside.current;
      epochs = c.self.inside.epochs.items;
      procs = c.self.inside.homes.given;
      homes = c.self.inside.homes.homes;
      stops = c.self.inside.homes.stops;
    } in
    let none : first_place (has_act owes_start) v.epochs ≡ None =
    sym (c.in_err-place.ensures.first ∙ ap (first_place (has_act owes_start)) c.deref.ensures.value) in
    let nothing = ap (λ z. first_made (act_at start_by z) (live_places z)) (sym c.self.view_is)
    ∙ all_nothing start_by owes_start start_agrees v c.self.invariant.live.rise none in
    sym (ap (λ o. after_due o c.args.self.now) nothing)

pub invariant_of-self : goal.invariant_of-self
invariant_of-self c =
    let v : EpochsState = record {
      current = c.self.inside.current;
      epochs = c.self.inside.epochs.items;
      procs = c.self.inside.homes.given;
      homes = c.self.inside.homes.homes;
      stops = c.self.inside.homes.stops;
    } in
    still_whole v c.in_ok-place.place c.index_mut-live.result.now c.start.new.self c.self.invariant
    c.index_mut-live.ensures.value c.start.ensures.number c.start.ensures.checks c.start.ensures.alive

pub returns-clause-act : goal.returns-clause-act
returns-clause-act c =
    let v : EpochsState = record {
      current = c.self.inside.current;
      epochs = c.self.inside.epochs.items;
      procs = c.self.inside.homes.given;
      homes = c.self.inside.homes.homes;
      stops = c.self.inside.homes.stops;
    } in
    let i = c.in_ok-place.place in
    let x = c.index_mut-live.result.now in
    let first : first_place (has_act owes_start) v.epochs ≡ Some i =
    sym (c.in_ok-place.ensures.first ∙ ap (first_place (has_act owes_start)) c.deref.ensures.value) in
    let f = first_is (has_act owes_start) v.epochs i first in
    let at : slice_get v.epochs i ≡ Some x =
    slice_get_read v.epochs (length v.epochs) i x refl (slice_get_within v.epochs i f.it f.at)
    c.index_mut-live.ensures.value in
    let made = all_made start_by owes_start start_agrees v i x c.self.invariant.live.rise first
    at c.start.ensures.few in
    c.start.ensures.act ∙ ap told_due
    (sym made ∙ ap (λ z. first_made (act_at start_by z) (live_places z)) c.self.view_is)

pub returns-clause-value : goal.returns-clause-value
returns-clause-value c =
    let v : EpochsState = record {
      current = c.self.inside.current;
      epochs = c.self.inside.epochs.items;
      procs = c.self.inside.homes.given;
      homes = c.self.inside.homes.homes;
      stops = c.self.inside.homes.stops;
    } in
    let i = c.in_ok-place.place in
    let x = c.index_mut-live.result.now in
    let first : first_place (has_act owes_start) v.epochs ≡ Some i =
    sym (c.in_ok-place.ensures.first ∙ ap (first_place (has_act owes_start)) c.deref.ensures.value) in
    let f = first_is (has_act owes_start) v.epochs i first in
    let at : slice_get v.epochs i ≡ Some x =
    slice_get_read v.epochs (length v.epochs) i x refl (slice_get_within v.epochs i f.it f.at)
    c.index_mut-live.ensures.value in
    let made = all_made start_by owes_start start_agrees v i x c.self.invariant.live.rise first
    at c.start.ensures.few in
    ap (λ z. record v { epochs = set v.epochs i z }) c.start.ensures.value
    ∙ act_lifted v i x (act_in start_by owes_start x) c.self.invariant.live.rise at (start_of_epoch x)
    ∙ ap (λ o. after_due o v) (sym made)
    ∙ ap (λ z. after_due (first_made (act_at start_by z) (live_places z)) z) c.self.view_is
