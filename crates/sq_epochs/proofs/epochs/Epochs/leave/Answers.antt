use Rattle.std.proofs.Common.{refl, ap, ◌∙◌, map, arith}
use Rattle.std.proofs.lemmas.Grind.{common_steps}
use Rattle.sq_machine.specs.Rising.{place_among}
use Rattle.sq_epochs.specs.EpochStates.{EpochsState, epoch_number}
use Rattle.sq_epochs.specs.EpochChanges.{HasLeft}
use Rattle.sq_epochs.proofs.HomedLaws.{still_whole}
use Rattle.sq_epochs.proofs.PartLaws.{find_at, lifted, within_at}
use Rattle.sq_epochs.proofs.epochs.Epochs.leave.Goals as goal

pub index_mut-live-requires : goal.index_mut-live-requires
index_mut-live-requires c =
    let v : EpochsState = record {
      current = c.self.inside.current;
      epochs = c.self.inside.epochs.items;
      procs = c.self.inside.homes.given;
      homes = c.self.inside.homes.homes;
      stops = c.self.inside.homes.stops;
    } in
    let f = find_at v c.args.self.now c.args.epoch c.args.class c.place_of-place.result c.self.view_is
    c.self.invariant.live c.requires.there
    (c.place_of-place.ensures.place ∙ ap (λ z. place_among c.args.epoch (map epoch_number z)) c.deref.ensures.value) in
    let w = f.within in
    grind (arith, common_steps, w)

pub leave-requires : goal.leave-requires
leave-requires c =
    let v : EpochsState = record {
      current = c.self.inside.current;
      epochs = c.self.inside.epochs.items;
      procs = c.self.inside.homes.given;
      homes = c.self.inside.homes.homes;
      stops = c.self.inside.homes.stops;
    } in
    let f = find_at v c.args.self.now c.args.epoch c.args.class c.place_of-place.result c.self.view_is
    c.self.invariant.live c.requires.there
    (c.place_of-place.ensures.place ∙ ap (λ z. place_among c.args.epoch (map epoch_number z)) c.deref.ensures.value) in
    record {
      there = within_at v c.args.epoch c.args.class c.place_of-place.result f c.index_mut-live.result.now
          c.index_mut-live.ensures.value;
    }

pub invariant_of-self : goal.invariant_of-self
invariant_of-self c =
    let v : EpochsState = record {
      current = c.self.inside.current;
      epochs = c.self.inside.epochs.items;
      procs = c.self.inside.homes.given;
      homes = c.self.inside.homes.homes;
      stops = c.self.inside.homes.stops;
    } in
    still_whole v c.place_of-place.result c.index_mut-live.result.now c.leave.new.self c.self.invariant
    c.index_mut-live.ensures.value (ap epoch_number c.leave.ensures.changed.new_is)
    (ap (λ x. x.checks) c.leave.ensures.changed.new_is) c.leave.ensures.alive

pub returns : goal.returns
returns c =
    let v : EpochsState = record {
      current = c.self.inside.current;
      epochs = c.self.inside.epochs.items;
      procs = c.self.inside.homes.given;
      homes = c.self.inside.homes.homes;
      stops = c.self.inside.homes.stops;
    } in
    let f = find_at v c.args.self.now c.args.epoch c.args.class c.place_of-place.result c.self.view_is
    c.self.invariant.live c.requires.there
    (c.place_of-place.ensures.place ∙ ap (λ z. place_among c.args.epoch (map epoch_number z)) c.deref.ensures.value) in
    lifted v c.args.self.now _ c.args.epoch c.args.class c.place_of-place.result f c.index_mut-live.result.now
    c.leave.new.self (HasLeft c.args.check) c.self.view_is c.index_mut-live.ensures.value refl c.leave.ensures.changed
