use Rattle.std.proofs.Common.{◌≡◌, Some, set, refl, ap, ◌∙◌, sym, map, subst, arith}
use Rattle.std.proofs.lemmas.Grind.{common_steps}
use Rattle.sq_machine.specs.DueActs.{ClassId}
use Rattle.sq_machine.specs.Rising.{place_among}
use Rattle.sq_epochs.specs.EpochProcs.{HasEnded, IsEnded, lives_in}
use Rattle.sq_epochs.specs.EpochStates.{EpochsState, epoch_number, home_at, part_at}
use Rattle.sq_epochs.proofs.HomedLaws.{epochs_with, home_lives, lives_there, whole_ended}
use Rattle.sq_epochs.proofs.LiveLaws.{still_epochs}
use Rattle.sq_epochs.proofs.PartLaws.{find_at, lifted, part_here, within_at}
use Rattle.sq_epochs.proofs.epochs.Epochs.end.Goals as goal

pub index_mut-live-requires : goal.index_mut-live-requires
index_mut-live-requires c =
    let v : EpochsState = record {
      current = c.self.inside.current;
      epochs = c.self.inside.epochs.items;
      procs = c.self.inside.homes.given;
      homes = c.self.inside.homes.homes;
      stops = c.self.inside.homes.stops;
    } in
    let home : ClassId = record { epoch = c.home.inside.epoch; class = c.home.inside.class } in
    let home_is : home_at v c.args.proc ≡ Some home = sym c.in-Some.ensures.place
    ∙ ap (λ h. Some h.place) (sym c.home.view_is) in
    let alive = home_lives v c.args.proc home c.self.invariant.homed home_is in
    let f = find_at v v home.epoch home.class c.place_of-place.result refl c.self.invariant.live
    (lives_there c.args.proc (part_at v home.epoch home.class) alive)
    (c.place_of-place.ensures.place ∙ ap (λ z. place_among home.epoch (map epoch_number z)) c.deref.ensures.value) in
    let w = f.within in
    grind (arith, common_steps, w)

pub end-requires-clause-there : goal.end-requires-clause-there
end-requires-clause-there c =
    let v : EpochsState = record {
      current = c.self.inside.current;
      epochs = c.self.inside.epochs.items;
      procs = c.self.inside.homes.given;
      homes = c.self.inside.homes.homes;
      stops = c.self.inside.homes.stops;
    } in
    let home : ClassId = record { epoch = c.home.inside.epoch; class = c.home.inside.class } in
    let home_is : home_at v c.args.proc ≡ Some home = sym c.in-Some.ensures.place
    ∙ ap (λ h. Some h.place) (sym c.home.view_is) in
    let alive = home_lives v c.args.proc home c.self.invariant.homed home_is in
    let f = find_at v v home.epoch home.class c.place_of-place.result refl c.self.invariant.live
    (lives_there c.args.proc (part_at v home.epoch home.class) alive)
    (c.place_of-place.ensures.place ∙ ap (λ z. place_among home.epoch (map epoch_number z)) c.deref.ensures.value) in
    within_at v home.epoch home.class c.place_of-place.result f c.index_mut-live.result.now
    c.index_mut-live.ensures.value

pub end-requires-clause-alive : goal.end-requires-clause-alive
end-requires-clause-alive c = λ p at.
    let v : EpochsState = record {
      current = c.self.inside.current;
      epochs = c.self.inside.epochs.items;
      procs = c.self.inside.homes.given;
      homes = c.self.inside.homes.homes;
      stops = c.self.inside.homes.stops;
    } in
    let home : ClassId = record { epoch = c.home.inside.epoch; class = c.home.inside.class } in
    let home_is : home_at v c.args.proc ≡ Some home = sym c.in-Some.ensures.place
    ∙ ap (λ h. Some h.place) (sym c.home.view_is) in
    let alive = home_lives v c.args.proc home c.self.invariant.homed home_is in
    let f = find_at v v home.epoch home.class c.place_of-place.result refl c.self.invariant.live
    (lives_there c.args.proc (part_at v home.epoch home.class) alive)
    (c.place_of-place.ensures.place ∙ ap (λ z. place_among home.epoch (map epoch_number z)) c.deref.ensures.value) in
    sym (ap (lives_in c.args.proc)
    (part_here v v home.epoch home.class c.place_of-place.result f c.index_mut-live.result.now refl
    c.index_mut-live.ensures.value ∙ at)) ∙ alive

pub invariant_of-self : goal.invariant_of-self
invariant_of-self c =
    let v : EpochsState = record {
      current = c.self.inside.current;
      epochs = c.self.inside.epochs.items;
      procs = c.self.inside.homes.given;
      homes = c.self.inside.homes.homes;
      stops = c.self.inside.homes.stops;
    } in
    let home : ClassId = record { epoch = c.home.inside.epoch; class = c.home.inside.class } in
    let home_is : home_at v c.args.proc ≡ Some home = sym c.in-Some.ensures.place
    ∙ ap (λ h. Some h.place) (sym c.home.view_is) in
    let alive = home_lives v c.args.proc home c.self.invariant.homed home_is in
    let f = find_at v v home.epoch home.class c.place_of-place.result refl c.self.invariant.live
    (lives_there c.args.proc (part_at v home.epoch home.class) alive)
    (c.place_of-place.ensures.place ∙ ap (λ z. place_among home.epoch (map epoch_number z)) c.deref.ensures.value) in
    let y = c.end.new.self in
    let n : EpochsState = record v {
      epochs = set v.epochs c.place_of-place.result y;
      procs = c.remove.new.self.given;
      homes = c.remove.new.self.homes;
      stops = c.remove.new.self.stops;
    } in
    let ended : IsEnded c.args.cause c.args.proc c.args.by_line v n = record {
      place = home;
      home_is = home_is;
      changed = lifted v v (record n { homes = v.homes; stops = v.stops }) home.epoch home.class c.place_of-place.result
          f c.index_mut-live.result.now y (HasEnded c.args.cause c.args.proc) refl c.index_mut-live.ensures.value
          (ap (λ g. record v { epochs = set v.epochs c.place_of-place.result y; procs = g }) c.remove.ensures.given)
          c.end.ensures;
      homes_are = c.remove.ensures.homes;
      stops_are = c.remove.ensures.stops;
    } in
    whole_ended v n c.args.cause c.args.proc c.args.by_line c.self.invariant
    (epochs_with (record v { epochs = set v.epochs c.place_of-place.result y }) n
    (still_epochs v c.place_of-place.result c.index_mut-live.result.now y c.self.invariant.live
    c.index_mut-live.ensures.value (ap epoch_number c.end.ensures.new_is) (ap (λ x. x.checks) c.end.ensures.new_is))
    refl refl)
    ended

pub returns : goal.returns
returns c =
    let v : EpochsState = record {
      current = c.self.inside.current;
      epochs = c.self.inside.epochs.items;
      procs = c.self.inside.homes.given;
      homes = c.self.inside.homes.homes;
      stops = c.self.inside.homes.stops;
    } in
    let home : ClassId = record { epoch = c.home.inside.epoch; class = c.home.inside.class } in
    let home_is : home_at v c.args.proc ≡ Some home = sym c.in-Some.ensures.place
    ∙ ap (λ h. Some h.place) (sym c.home.view_is) in
    let alive = home_lives v c.args.proc home c.self.invariant.homed home_is in
    let f = find_at v v home.epoch home.class c.place_of-place.result refl c.self.invariant.live
    (lives_there c.args.proc (part_at v home.epoch home.class) alive)
    (c.place_of-place.ensures.place ∙ ap (λ z. place_among home.epoch (map epoch_number z)) c.deref.ensures.value) in
    let y = c.end.new.self in
    let n : EpochsState = record v {
      epochs = set v.epochs c.place_of-place.result y;
      procs = c.remove.new.self.given;
      homes = c.remove.new.self.homes;
      stops = c.remove.new.self.stops;
    } in
    let ended : IsEnded c.args.cause c.args.proc c.args.by_line v n = record {
      place = home;
      home_is = home_is;
      changed = lifted v v (record n { homes = v.homes; stops = v.stops }) home.epoch home.class c.place_of-place.result
          f c.index_mut-live.result.now y (HasEnded c.args.cause c.args.proc) refl c.index_mut-live.ensures.value
          (ap (λ g. record v { epochs = set v.epochs c.place_of-place.result y; procs = g }) c.remove.ensures.given)
          c.end.ensures;
      homes_are = c.remove.ensures.homes;
      stops_are = c.remove.ensures.stops;
    } in
    subst (λ z. IsEnded c.args.cause c.args.proc c.args.by_line z n) c.self.view_is ended
