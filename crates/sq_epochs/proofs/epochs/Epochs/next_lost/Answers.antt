use Rattle.std.proofs.Common.{refl, ap, ◌∙◌, map, arith}
use Rattle.std.proofs.lemmas.Grind.{common_steps}
use Rattle.sq_machine.specs.Rising.{place_among}
use Rattle.sq_epochs.specs.EpochChanges.{HasNoLoss, IsHandedOn}
use Rattle.sq_epochs.specs.EpochStates.{EpochsState, epoch_number}
use Rattle.sq_epochs.proofs.HomedLaws.{still_whole}
use Rattle.sq_epochs.proofs.OutcomeLaws.{none_lifted, some_lifted}
use Rattle.sq_epochs.proofs.PartLaws.{find_at, within_at}
use Rattle.sq_epochs.proofs.epochs.Epochs.next_lost.Goals as goal

pub index_mut-live-requires : goal.index_mut-live-requires
index_mut-live-requires c =
    let v : EpochsState = record {
      current = c.self.inside.current;
      epochs = c.self.inside.epochs.items;
      procs = c.self.inside.homes.given;
      homes = c.self.inside.homes.homes;
      stops = c.self.inside.homes.stops;
    } in
    let f = find_at v c.args.self.now c.args.epoch c.args.class c.place_of-place.result c.self.view_is
    c.self.invariant.live c.requires.there
    (c.place_of-place.ensures.place ∙ ap (λ z. place_among c.args.epoch (map epoch_number z)) c.deref.ensures.value) in
    let w = f.within in
    grind (arith, common_steps, w)

pub next_lost-requires : goal.next_lost-requires
next_lost-requires c =
    let v : EpochsState = record {
      current = c.self.inside.current;
      epochs = c.self.inside.epochs.items;
      procs = c.self.inside.homes.given;
      homes = c.self.inside.homes.homes;
      stops = c.self.inside.homes.stops;
    } in
    let f = find_at v c.args.self.now c.args.epoch c.args.class c.place_of-place.result c.self.view_is
    c.self.invariant.live c.requires.there
    (c.place_of-place.ensures.place ∙ ap (λ z. place_among c.args.epoch (map epoch_number z)) c.deref.ensures.value) in
    record {
      there = within_at v c.args.epoch c.args.class c.place_of-place.result f c.index_mut-live.result.now
          c.index_mut-live.ensures.value;
    }

pub invariant_of-self : goal.invariant_of-self
invariant_of-self c =
    let v : EpochsState = record {
      current = c.self.inside.current;
      epochs = c.self.inside.epochs.items;
      procs = c.self.inside.homes.given;
      homes = c.self.inside.homes.homes;
      stops = c.self.inside.homes.stops;
    } in
    still_whole v c.place_of-place.result c.index_mut-live.result.now c.next_lost.new.self c.self.invariant
    c.index_mut-live.ensures.value c.next_lost.ensures.number c.next_lost.ensures.checks c.next_lost.ensures.alive

pub returns-clause-handed : goal.returns-clause-handed
returns-clause-handed c =
    let v : EpochsState = record {
      current = c.self.inside.current;
      epochs = c.self.inside.epochs.items;
      procs = c.self.inside.homes.given;
      homes = c.self.inside.homes.homes;
      stops = c.self.inside.homes.stops;
    } in
    let f = find_at v c.args.self.now c.args.epoch c.args.class c.place_of-place.result c.self.view_is
    c.self.invariant.live c.requires.there
    (c.place_of-place.ensures.place ∙ ap (λ z. place_among c.args.epoch (map epoch_number z)) c.deref.ensures.value) in
    some_lifted c.next_lost.result v c.args.self.now _ c.args.epoch c.args.class c.place_of-place.result f
    c.index_mut-live.result.now c.next_lost.new.self IsHandedOn c.self.view_is c.index_mut-live.ensures.value refl
    c.next_lost.ensures.handed

pub returns-clause-none : goal.returns-clause-none
returns-clause-none c =
    let v : EpochsState = record {
      current = c.self.inside.current;
      epochs = c.self.inside.epochs.items;
      procs = c.self.inside.homes.given;
      homes = c.self.inside.homes.homes;
      stops = c.self.inside.homes.stops;
    } in
    let f = find_at v c.args.self.now c.args.epoch c.args.class c.place_of-place.result c.self.view_is
    c.self.invariant.live c.requires.there
    (c.place_of-place.ensures.place ∙ ap (λ z. place_among c.args.epoch (map epoch_number z)) c.deref.ensures.value) in
    none_lifted c.next_lost.result v c.args.self.now _ c.args.epoch c.args.class c.place_of-place.result f
    c.index_mut-live.result.now c.next_lost.new.self HasNoLoss c.self.view_is c.index_mut-live.ensures.value refl
    c.next_lost.ensures.none
