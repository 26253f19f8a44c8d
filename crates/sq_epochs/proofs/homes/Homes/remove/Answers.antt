use Rattle.std.proofs.Common.{◌≡◌, ◌∙◌, length, map, arith, ap, sym, subst}
use Rattle.std.proofs.lemmas.Grind.{common_steps}
use Rattle.std.specs.List.{remove}
use Rattle.sq_machine.specs.Rising.{place_among}
use Rattle.sq_epochs.specs.HomeStates.{AreHomes, home_number, without_home}
use Rattle.sq_epochs.proofs.HomeLaws.{homes_less, length_if, taken}
use Rattle.sq_epochs.proofs.homes.Homes.remove.Goals as goal

pub remove-requires : goal.remove-requires
remove-requires c =
    let hs = c.self.inside.homes.items in
    let k = c.args.proc in
    let is = rw (← c.self.view_is) at c.requires in
    let at = taken k hs c.self.invariant.0.rise is in
    let place : c.place_of-place.result ≡ place_among k (map home_number hs) = c.place_of-place.ensures.place
    ∙ ap (λ z. place_among k (map home_number z)) c.deref.ensures.value in
    let w = at.within in
    grind (arith, common_steps, w, place)

pub put_if-requires-clause-room : goal.put_if-requires-clause-room
put_if-requires-clause-room c =
    let hs = c.self.inside.homes.items in
    let k = c.args.proc in
    let is = rw (← c.self.view_is) at c.requires in
    let at = taken k hs c.self.invariant.0.rise is in
    let w = at.within in
    let room = c.self.invariant.2 in
    omega arith

pub invariant_of-self : goal.invariant_of-self
invariant_of-self c =
    let v = c.self.inside in
    let hs = v.homes.items in
    let k = c.args.proc in
    let is = rw (← c.self.view_is) at c.requires in
    let at = taken k hs c.self.invariant.0.rise is in
    let place : c.place_of-place.result ≡ place_among k (map home_number hs) = c.place_of-place.ensures.place
    ∙ ap (λ z. place_among k (map home_number z)) c.deref.ensures.value in
    let rows : c.remove.new.self.items ≡ without_home k hs = c.remove.ensures.items ∙ ap (remove hs) place
    ∙ at.rows_are in
    let stops = c.put_if.ensures.numbers in
    let few = at.fewer in
    let most = length_if c.args.due k v.stops.numbers in
    let len = ap length rows in
    let len_stops = ap length stops in
    let more = c.put_if.ensures.room in
    let room = c.self.invariant.2 in (
      subst (λ z. AreHomes v.given z c.put_if.new.stops.numbers) (sym rows)
          (subst (AreHomes v.given (without_home k hs)) (sym stops)
          (homes_less v.given k hs v.stops.numbers c.args.due c.self.invariant.0 is)),
      c.self.invariant.1,
      omega arith,
    )

pub returns-clause-homes : goal.returns-clause-homes
returns-clause-homes c =
    let hs = c.self.inside.homes.items in
    let k = c.args.proc in
    let is = rw (← c.self.view_is) at c.requires in
    let at = taken k hs c.self.invariant.0.rise is in
    let place : c.place_of-place.result ≡ place_among k (map home_number hs) = c.place_of-place.ensures.place
    ∙ ap (λ z. place_among k (map home_number z)) c.deref.ensures.value in
    rw (← c.self.view_is) (c.remove.ensures.items ∙ ap (remove hs) place ∙ at.rows_are)
