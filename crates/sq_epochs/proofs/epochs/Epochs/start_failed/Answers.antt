use Rattle.std.proofs.Common.{refl, ap, ◌∙◌, map, arith}
use Rattle.std.proofs.lemmas.Grind.{common_steps}
use Rattle.sq_machine.specs.Rising.{place_among}
use Rattle.sq_epochs.specs.EpochChanges.{HasFailed, HasNoStart}
use Rattle.sq_epochs.specs.EpochStates.{EpochsState, epoch_number}
use Rattle.sq_epochs.proofs.HomedLaws.{still_whole}
use Rattle.sq_epochs.proofs.OutcomeLaws.{err_lifted, ok_lifted}
use Rattle.sq_epochs.proofs.PartLaws.{find_at, within_at}
use Rattle.sq_epochs.proofs.epochs.Epochs.start_failed.Goals as goal

pub index_mut-live-requires : goal.index_mut-live-requires
index_mut-live-requires c =
    let v : EpochsState = record {
      current = c.self.inside.current;
      epochs = c.self.inside.epochs.items;
      procs = c.self.inside.homes.given;
      homes = c.self.inside.homes.homes;
      stops = c.self.inside.homes.stops;
    } in
    let f = find_at v c.args.self.now c.args.epoch c.args.class c.place_of-place.result c.self.view_is
    c.self.invariant.live c.requires.there
    (c.place_of-place.ensures.place ∙ ap (λ z. place_among c.args.epoch (map epoch_number z)) c.deref.ensures.value) in
    let w = f.within in
    grind (arith, common_steps, w)

pub start_failed-requires : goal.start_failed-requires
start_failed-requires c =
    let v : EpochsState = record {
      current = c.self.inside.current;
      epochs = c.self.inside.epochs.items;
      procs = c.self.inside.homes.given;
      homes = c.self.inside.homes.homes;
      stops = c.self.inside.homes.stops;
    } in
    let f = find_at v c.args.self.now c.args.epoch c.args.class c.place_of-place.result c.self.view_is
    c.self.invariant.live c.requires.there
    (c.place_of-place.ensures.place ∙ ap (λ z. place_among c.args.epoch (map epoch_number z)) c.deref.ensures.value) in
    record {
      there = within_at v c.args.epoch c.args.class c.place_of-place.result f c.index_mut-live.result.now
          c.index_mut-live.ensures.value;
    }

pub invariant_of-self : goal.invariant_of-self
invariant_of-self c =
    let v : EpochsState = record {
      current = c.self.inside.current;
      epochs = c.self.inside.epochs.items;
      procs = c.self.inside.homes.given;
      homes = c.self.inside.homes.homes;
      stops = c.self.inside.homes.stops;
    } in
    still_whole v c.place_of-place.result c.index_mut-live.result.now c.start_failed.new.self c.self.invariant
    c.index_mut-live.ensures.value c.start_failed.ensures.number c.start_failed.ensures.checks
    c.start_failed.ensures.alive

pub returns-clause-ok : goal.returns-clause-ok
returns-clause-ok c =
    let v : EpochsState = record {
      current = c.self.inside.current;
      epochs = c.self.inside.epochs.items;
      procs = c.self.inside.homes.given;
      homes = c.self.inside.homes.homes;
      stops = c.self.inside.homes.stops;
    } in
    let f = find_at v c.args.self.now c.args.epoch c.args.class c.place_of-place.result c.self.view_is
    c.self.invariant.live c.requires.there
    (c.place_of-place.ensures.place ∙ ap (λ z. place_among c.args.epoch (map epoch_number z)) c.deref.ensures.value) in
    ok_lifted c.start_failed.result v c.args.self.now _ c.args.epoch c.args.class c.place_of-place.result f
    c.index_mut-live.result.now c.start_failed.new.self HasFailed c.self.view_is c.index_mut-live.ensures.value refl
    c.start_failed.ensures.ok

pub returns-clause-err : goal.returns-clause-err
returns-clause-err c =
    let v : EpochsState = record {
      current = c.self.inside.current;
      epochs = c.self.inside.epochs.items;
      procs = c.self.inside.homes.given;
      homes = c.self.inside.homes.homes;
      stops = c.self.inside.homes.stops;
    } in
    let f = find_at v c.args.self.now c.args.epoch c.args.class c.place_of-place.result c.self.view_is
    c.self.invariant.live c.requires.there
    (c.place_of-place.ensures.place ∙ ap (λ z. place_among c.args.epoch (map epoch_number z)) c.deref.ensures.value) in
    err_lifted c.start_failed.result v c.args.self.now _ c.args.epoch c.args.class c.place_of-place.result f
    c.index_mut-live.result.now c.start_failed.new.self HasNoStart c.self.view_is c.index_mut-live.ensures.value refl
    c.start_failed.ensures.err
