use Rattle.std.proofs.Common.{◌≡◌, ◌≤◌, Some, slice_get, refl, length, arith, ap, ◌∙◌, sym, map}
use Rattle.std.proofs.lemmas.Grind.{common_steps}
use Rattle.std.proofs.lemmas.Option.{slice_get_past, slice_get_read}
use Rattle.sq_machine.specs.Rising.{place_among}
use Rattle.sq_epochs.specs.HomeStates.{home_in, home_number}
use Rattle.sq_epochs.proofs.FindLaws.{home_read, home_other, home_none}
use Rattle.sq_epochs.proofs.homes.Homes.get.Goals as goal
use Rattle.sq_epochs.proofs.homes.Homes.get.Goals.{in_default-via-in-Some+else-home-proc, in_default-via-in_default}

pub returns-in-Some-clause-place : goal.returns-in-Some-clause-place
returns-in-Some-clause-place c =
    let xs = c.self.inside.homes.items in
    let k = c.args.proc in
    let x = c.in-Some.home.now in
    let i = c.place_of-place.result in
    let place : i ≡ place_among k (map home_number xs) = c.place_of-place.ensures.place
    ∙ ap (λ z. place_among k (map home_number z)) c.deref.ensures.value in
    let there : slice_get xs i ≡ Some x = sym (ap (λ z. slice_get z i) c.deref-2.ensures.value)
    ∙ slice_get_read c.deref-2.result.now (length c.deref-2.result.now) i x refl c.in-Some.ensures.lookup.3.0
    c.in-Some.ensures.lookup.1 in
    let number : x.proc ≡ k = sym (ap (λ i. i.proc) c.home-inside.view_is ∙ ap (λ l. l.proc) c.home.view_is)
    ∙ c.if-home-proc.true ∙ c.proc.view_is in
    home_read k i xs x c.self.invariant.0.rise place there number ∙ ap (λ z. home_in k z.homes) c.self.view_is

pub returns-in-Some-clause-number : goal.returns-in-Some-clause-number
returns-in-Some-clause-number c = sym (ap (λ i. i.proc) c.home-inside.view_is ∙ ap (λ l. l.proc) c.home.view_is)
    ∙ c.if-home-proc.true ∙ c.proc.view_is

pub returns-in_default-clause-place : goal.returns-in_default-clause-place
returns-in_default-clause-place c =
    let xs = c.self.inside.homes.items in
    let k = c.args.proc in
    let i = c.place_of-place.result in
    let place : i ≡ place_among k (map home_number xs) = c.place_of-place.ensures.place
    ∙ ap (λ z. place_among k (map home_number z)) c.deref.ensures.value in
    elim c.in_default.branch [
      | in_default-via-in-Some+else-home-proc w ↦
          (let x = w.in-Some.home.now in
          let there : slice_get xs i ≡ Some x = sym (ap (λ z. slice_get z i) c.deref-2.ensures.value)
          ∙ slice_get_read c.deref-2.result.now (length c.deref-2.result.now) i x refl w.in-Some.ensures.lookup.3.0
          w.in-Some.ensures.lookup.1 in
          home_other k i xs x c.self.invariant.0.rise place there
          (λ e. w.if-home-proc.false
          (ap (λ i. i.proc) w.home-inside.view_is ∙ ap (λ l. l.proc) w.home.view_is ∙ e ∙ sym c.proc.view_is))
          ∙ ap (λ z. home_in k z.homes) c.self.view_is)
      | in_default-via-in_default w ↦
          (let past : length c.deref-2.result.now ≤ i =
          grind (arith, common_steps, w.in_default.is, c.get.ensures.lookup.0) in
          home_none k i xs c.self.invariant.0.rise place
          (sym (ap (λ z. slice_get z i) c.deref-2.ensures.value) ∙ slice_get_past c.deref-2.result.now i past)
          ∙ ap (λ z. home_in k z.homes) c.self.view_is)
    ]
