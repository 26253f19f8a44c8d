use Rattle.std.proofs.Common.{◌≡◌, ◌≤◌, Some, slice_get, refl, length, arith, ap, ◌∙◌, sym, map}
use Rattle.std.proofs.lemmas.Grind.{common_steps}
use Rattle.std.proofs.lemmas.Option.{slice_get_past, slice_get_read}
use Rattle.sq_machine.specs.Rising.{place_among}
use Rattle.sq_epochs.specs.EpochStates.{epoch_in, epoch_number}
use Rattle.sq_epochs.proofs.FindLaws.{epoch_read, epoch_other, epoch_none}
use Rattle.sq_epochs.proofs.epochs.Epochs.epoch.Goals as goal
use Rattle.sq_epochs.proofs.epochs.Epochs.epoch.Goals.{in_default-via-in-Some+else-live-epoch, in_default-via-in_default}

pub returns-in-Some : goal.returns-in-Some
returns-in-Some c =
    let xs = c.self.inside.epochs.items in
    let k = c.args.epoch in
    let x = c.in-Some.live.now in
    let i = c.place_of-place.result in
    let place : i ≡ place_among k (map epoch_number xs) = c.place_of-place.ensures.place
    ∙ ap (λ z. place_among k (map epoch_number z)) c.deref.ensures.value in
    let there : slice_get xs i ≡ Some x = sym (ap (λ z. slice_get z i) c.deref-2.ensures.value)
    ∙ slice_get_read c.deref-2.result.now (length c.deref-2.result.now) i x refl c.in-Some.ensures.lookup.3.0
    c.in-Some.ensures.lookup.1 in
    let number : x.epoch ≡ k = sym (ap (λ i. i.number) c.live-inside.view_is ∙ ap (λ l. l.epoch) c.live.view_is)
    ∙ c.if-live-epoch.true ∙ c.epoch.view_is in
    epoch_read k i xs x c.self.invariant.live.rise place there number ∙ ap (λ z. epoch_in k z.epochs) c.self.view_is

pub returns-in_default : goal.returns-in_default
returns-in_default c =
    let xs = c.self.inside.epochs.items in
    let k = c.args.epoch in
    let i = c.place_of-place.result in
    let place : i ≡ place_among k (map epoch_number xs) = c.place_of-place.ensures.place
    ∙ ap (λ z. place_among k (map epoch_number z)) c.deref.ensures.value in
    elim c.in_default.branch [
      | in_default-via-in-Some+else-live-epoch w ↦
          (let x = w.in-Some.live.now in
          let there : slice_get xs i ≡ Some x = sym (ap (λ z. slice_get z i) c.deref-2.ensures.value)
          ∙ slice_get_read c.deref-2.result.now (length c.deref-2.result.now) i x refl w.in-Some.ensures.lookup.3.0
          w.in-Some.ensures.lookup.1 in
          epoch_other k i xs x c.self.invariant.live.rise place there
          (λ e. w.if-live-epoch.false
          (ap (λ i. i.number) w.live-inside.view_is ∙ ap (λ l. l.epoch) w.live.view_is ∙ e ∙ sym c.epoch.view_is))
          ∙ ap (λ z. epoch_in k z.epochs) c.self.view_is)
      | in_default-via-in_default w ↦
          (let past : length c.deref-2.result.now ≤ i =
          grind (arith, common_steps, w.in_default.is, c.get.ensures.lookup.0) in
          epoch_none k i xs c.self.invariant.live.rise place
          (sym (ap (λ z. slice_get z i) c.deref-2.ensures.value) ∙ slice_get_past c.deref-2.result.now i past)
          ∙ ap (λ z. epoch_in k z.epochs) c.self.view_is)
    ]
