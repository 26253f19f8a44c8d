use Rattle.std.proofs.Common.{◌≡◌, ◌∷◌, ◌++◌, [], suc, true, set, refl, ap, ◌∙◌, sym, map, subst, arith}
use Rattle.std.proofs.lemmas.Grind.{common_steps}
use Rattle.sq_machine.specs.Living.{lives}
use Rattle.sq_machine.specs.Rising.{place_among}
use Rattle.sq_epochs.specs.EpochProcs.{HasStarted, IsStarted, has_start, lives_in}
use Rattle.sq_epochs.specs.EpochStates.{EpochsState, IsEpochChanged, epoch_number}
use Rattle.sq_epochs.proofs.HomedLaws.{epochs_with, next_is, next_lifeless, start_there, whole_started}
use Rattle.sq_epochs.proofs.LiveLaws.{still_epochs}
use Rattle.sq_epochs.proofs.PartLaws.{find_at, lifted, part_here, within_at}
use Rattle.sq_epochs.proofs.epochs.Epochs.started.Goals as goal

pub index_mut-live-requires : goal.index_mut-live-requires
index_mut-live-requires c =
    let v : EpochsState = record {
      current = c.self.inside.current;
      epochs = c.self.inside.epochs.items;
      procs = c.self.inside.homes.given;
      homes = c.self.inside.homes.homes;
      stops = c.self.inside.homes.stops;
    } in
    let e = c.args.epoch in
    let cl = c.args.class in
    let i = c.place_of-place.result in
    let is : has_start c.args.self.now e cl ≡ true = cc in
    let there = start_there v e cl (ap (λ z. has_start z e cl) c.self.view_is ∙ is) in
    let f = find_at v v e cl i refl c.self.invariant.live there
    (c.place_of-place.ensures.place ∙ ap (λ z. place_among e (map epoch_number z)) c.deref.ensures.value) in
    let w = f.within in
    grind (arith, common_steps, w)

pub started-requires-clause-there : goal.started-requires-clause-there
started-requires-clause-there c =
    let v : EpochsState = record {
      current = c.self.inside.current;
      epochs = c.self.inside.epochs.items;
      procs = c.self.inside.homes.given;
      homes = c.self.inside.homes.homes;
      stops = c.self.inside.homes.stops;
    } in
    let e = c.args.epoch in
    let cl = c.args.class in
    let i = c.place_of-place.result in
    let is : has_start c.args.self.now e cl ≡ true = cc in
    let there = start_there v e cl (ap (λ z. has_start z e cl) c.self.view_is ∙ is) in
    let f = find_at v v e cl i refl c.self.invariant.live there
    (c.place_of-place.ensures.place ∙ ap (λ z. place_among e (map epoch_number z)) c.deref.ensures.value) in
    within_at v e cl i f c.index_mut-live.result.now c.index_mut-live.ensures.value

pub started-requires-clause-fresh : goal.started-requires-clause-fresh
started-requires-clause-fresh c = λ p at.
    let v : EpochsState = record {
      current = c.self.inside.current;
      epochs = c.self.inside.epochs.items;
      procs = c.self.inside.homes.given;
      homes = c.self.inside.homes.homes;
      stops = c.self.inside.homes.stops;
    } in
    let e = c.args.epoch in
    let cl = c.args.class in
    let i = c.place_of-place.result in
    let is : has_start c.args.self.now e cl ≡ true = cc in
    let there = start_there v e cl (ap (λ z. has_start z e cl) c.self.view_is ∙ is) in
    let f = find_at v v e cl i refl c.self.invariant.live there
    (c.place_of-place.ensures.place ∙ ap (λ z. place_among e (map epoch_number z)) c.deref.ensures.value) in
    let number : c.in-Some.number ≡ suc v.procs = next_is _ _ _ c.in-Some.ensures in
    ap (λ j. lives j p.row.stock.procs) number
    ∙ sym (ap (lives_in (suc v.procs))
    (part_here v v e cl i f c.index_mut-live.result.now refl c.index_mut-live.ensures.value ∙ at))
    ∙ next_lifeless v e cl c.self.invariant

pub invariant_of-self-2 : goal.invariant_of-self-2
invariant_of-self-2 c =
    let v : EpochsState = record {
      current = c.self.inside.current;
      epochs = c.self.inside.epochs.items;
      procs = c.self.inside.homes.given;
      homes = c.self.inside.homes.homes;
      stops = c.self.inside.homes.stops;
    } in
    let e = c.args.epoch in
    let cl = c.args.class in
    let i = c.place_of-place.result in
    let is : has_start c.args.self.now e cl ≡ true = cc in
    let there = start_there v e cl (ap (λ z. has_start z e cl) c.self.view_is ∙ is) in
    let f = find_at v v e cl i refl c.self.invariant.live there
    (c.place_of-place.ensures.place ∙ ap (λ z. place_among e (map epoch_number z)) c.deref.ensures.value) in
    let x = c.index_mut-live.result.now in
    let y = c.started.new.self in
    let number : c.in-Some.number ≡ suc v.procs = next_is _ _ _ c.in-Some.ensures in
    let n : EpochsState = record v {
      epochs = set v.epochs i y;
      procs = c.add.new.self.given;
      homes = c.add.new.self.homes;
      stops = c.add.new.self.stops;
    } in
    let started : IsStarted e cl v n = record {
      changed = lifted v v (record n { procs = v.procs; homes = v.homes }) e cl i f x y (HasStarted (suc v.procs)) refl
          c.index_mut-live.ensures.value
          (ap (λ s. record v { epochs = set v.epochs i y; stops = s })
          (c.add.ensures.stops ∙ c.make_room.ensures.stops))
          (subst (λ j. IsEpochChanged cl (HasStarted j) x y) number c.in-Ok.ensures.ok);
      procs_are = c.add.ensures.given ∙ ap suc c.make_room.ensures.given;
      homes_are =
          c.add.ensures.homes ∙ ap (λ h. h
          ++ record { proc = suc c.make_room.new.self.given; place = record { epoch = e; class = cl } } ∷ [])
          c.make_room.ensures.homes
          ∙ ap (λ g. v.homes ++ record { proc = suc g; place = record { epoch = e; class = cl } } ∷ [])
          c.make_room.ensures.given;
    } in
    whole_started v n e cl c.self.invariant
    (epochs_with (record v { epochs = set v.epochs i y }) n
    (still_epochs v i x y c.self.invariant.live c.index_mut-live.ensures.value c.started.ensures.number
    c.started.ensures.checks) refl refl) started

pub returns-clause-ok : goal.returns-clause-ok
returns-clause-ok c =
    let v : EpochsState = record {
      current = c.self.inside.current;
      epochs = c.self.inside.epochs.items;
      procs = c.self.inside.homes.given;
      homes = c.self.inside.homes.homes;
      stops = c.self.inside.homes.stops;
    } in
    let e = c.args.epoch in
    let cl = c.args.class in
    let i = c.place_of-place.result in
    let is : has_start c.args.self.now e cl ≡ true = cc in
    let there = start_there v e cl (ap (λ z. has_start z e cl) c.self.view_is ∙ is) in
    let f = find_at v v e cl i refl c.self.invariant.live there
    (c.place_of-place.ensures.place ∙ ap (λ z. place_among e (map epoch_number z)) c.deref.ensures.value) in
    let x = c.index_mut-live.result.now in
    let y = c.started.new.self in
    let number : c.in-Some.number ≡ suc v.procs = next_is _ _ _ c.in-Some.ensures in
    let n : EpochsState = record v {
      epochs = set v.epochs i y;
      procs = c.add.new.self.given;
      homes = c.add.new.self.homes;
      stops = c.add.new.self.stops;
    } in
    let started : IsStarted e cl v n = record {
      changed = lifted v v (record n { procs = v.procs; homes = v.homes }) e cl i f x y (HasStarted (suc v.procs)) refl
          c.index_mut-live.ensures.value
          (ap (λ s. record v { epochs = set v.epochs i y; stops = s })
          (c.add.ensures.stops ∙ c.make_room.ensures.stops))
          (subst (λ j. IsEpochChanged cl (HasStarted j) x y) number c.in-Ok.ensures.ok);
      procs_are = c.add.ensures.given ∙ ap suc c.make_room.ensures.given;
      homes_are =
          c.add.ensures.homes ∙ ap (λ h. h
          ++ record { proc = suc c.make_room.new.self.given; place = record { epoch = e; class = cl } } ∷ [])
          c.make_room.ensures.homes
          ∙ ap (λ g. v.homes ++ record { proc = suc g; place = record { epoch = e; class = cl } } ∷ [])
          c.make_room.ensures.given;
    } in
    subst (λ z. IsStarted e cl z n) c.self.view_is started
