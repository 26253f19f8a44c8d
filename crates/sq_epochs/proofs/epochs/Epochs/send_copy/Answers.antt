use Rattle.std.proofs.Common.{◌≡◌, Some, None, length, refl, ap, ◌∙◌, sym}
use Rattle.std.specs.List.{slice_get}
use Rattle.std.proofs.lemmas.Option.{slice_get_read, slice_get_within}
use Rattle.sq_machine.specs.DueActs.{first_made}
use Rattle.sq_epochs.specs.DueStates.{act_at, first_place, has_act, live_places, owes_send, send_by, told_due}
use Rattle.sq_epochs.specs.EpochStates.{EpochsState}
use Rattle.sq_epochs.proofs.ActLaws.{ok_same}
use Rattle.sq_epochs.proofs.DueLaws.{all_made, all_nothing, first_is, send_agrees}
use Rattle.sq_epochs.proofs.epochs.Epochs.send_copy.Goals as goal

pub returns-in_default : goal.returns-in_default
returns-in_default c =
    let v : EpochsState = record {
      current = c.self.inside.current;
      epochs = c.self.inside.epochs.items;
      procs = c.self.inside.homes.given;
      homes = c.self.inside.homes.homes;
      stops = c.self.inside.homes.stops;
    } in
    let none : first_place (has_act owes_send) v.epochs ≡ None =
    sym (sym c.in_default.is ∙ c.sending_epoch.ensures.first
    ∙ ap (first_place (has_act owes_send)) c.deref.ensures.value) in
    let nothing = ap (λ z. first_made (act_at send_by z) (live_places z)) (sym c.self.view_is)
    ∙ all_nothing send_by owes_send send_agrees v c.self.invariant.live.rise none in
    sym (ap told_due nothing)

pub returns : goal.returns
returns c =
    let v : EpochsState = record {
      current = c.self.inside.current;
      epochs = c.self.inside.epochs.items;
      procs = c.self.inside.homes.given;
      homes = c.self.inside.homes.homes;
      stops = c.self.inside.homes.stops;
    } in
    let i = c.in-Some.place in
    let x = c.index-live.result.now in
    let first : first_place (has_act owes_send) v.epochs ≡ Some i =
    sym (c.in-Some.ensures.first ∙ ap (first_place (has_act owes_send)) c.deref.ensures.value) in
    let f = first_is (has_act owes_send) v.epochs i first in
    let at : slice_get v.epochs i ≡ Some x =
    slice_get_read v.epochs (length v.epochs) i x refl (slice_get_within v.epochs i f.it f.at) c.index-live.ensures in
    let made = all_made send_by owes_send send_agrees v i x c.self.invariant.live.rise first
    at c.send_copy.ensures.few in
    ok_same c.send_copy.result _ _
    (ap told_due (sym made ∙ ap (λ z. first_made (act_at send_by z) (live_places z)) c.self.view_is))
    c.send_copy.ensures.act
