use Rattle.std.proofs.Common.{◌<◌, ◌^◌, suc, subst, ap, ◌∙◌, map, arith}
use Rattle.std.proofs.lemmas.Grind.{common_steps}
use Rattle.sq_machine.specs.Rising.{place_among}
use Rattle.sq_epochs.specs.EpochStates.{EpochsState, epoch_number}
use Rattle.sq_epochs.specs.LiveEpochs.{check_more, is_used}
use Rattle.sq_epochs.proofs.HomedLaws.{used_whole}
use Rattle.sq_epochs.proofs.LiveLaws.{changed_epoch, checks_here, find_epoch, more_used}
use Rattle.sq_epochs.proofs.epochs.Epochs.began.Goals as goal

pub index_mut-live-requires : goal.index_mut-live-requires
index_mut-live-requires c =
    let v : EpochsState = record {
      current = c.self.inside.current;
      epochs = c.self.inside.epochs.items;
      procs = c.self.inside.homes.given;
      homes = c.self.inside.homes.homes;
      stops = c.self.inside.homes.stops;
    } in
    let f = find_epoch v c.args.self.now c.args.epoch c.place_of-place.result c.self.view_is c.self.invariant.live.rise
    c.requires.there (c.place_of-place.ensures.place
    ∙ ap (λ z. place_among c.args.epoch (map epoch_number z)) c.deref.ensures.value) in
    let w = f.within in
    grind (arith, common_steps, w)

pub begin_check-requires : goal.begin_check-requires
begin_check-requires c =
    let v : EpochsState = record {
      current = c.self.inside.current;
      epochs = c.self.inside.epochs.items;
      procs = c.self.inside.homes.given;
      homes = c.self.inside.homes.homes;
      stops = c.self.inside.homes.stops;
    } in
    let f = find_epoch v c.args.self.now c.args.epoch c.place_of-place.result c.self.view_is c.self.invariant.live.rise
    c.requires.there (c.place_of-place.ensures.place
    ∙ ap (λ z. place_among c.args.epoch (map epoch_number z)) c.deref.ensures.value) in
    subst (λ n. suc n < 2 ^ 64)
    (checks_here v c.args.self.now c.args.epoch c.place_of-place.result f c.index_mut-live.result.now c.self.view_is
    c.index_mut-live.ensures.value) c.requires.room

pub invariant_of-self : goal.invariant_of-self
invariant_of-self c =
    let v : EpochsState = record {
      current = c.self.inside.current;
      epochs = c.self.inside.epochs.items;
      procs = c.self.inside.homes.given;
      homes = c.self.inside.homes.homes;
      stops = c.self.inside.homes.stops;
    } in
    let f = find_epoch v c.args.self.now c.args.epoch c.place_of-place.result c.self.view_is c.self.invariant.live.rise
    c.requires.there (c.place_of-place.ensures.place
    ∙ ap (λ z. place_among c.args.epoch (map epoch_number z)) c.deref.ensures.value) in
    used_whole v c.place_of-place.result c.index_mut-live.result.now c.begin_check.new.self c.self.invariant f.within
    c.index_mut-live.ensures.value (ap epoch_number c.begin_check.ensures)
    (ap (is_used v.current) c.begin_check.ensures ∙ more_used v.current c.index_mut-live.result.now)
    (ap (λ z. z.parts) c.begin_check.ensures)

pub returns : goal.returns
returns c =
    let v : EpochsState = record {
      current = c.self.inside.current;
      epochs = c.self.inside.epochs.items;
      procs = c.self.inside.homes.given;
      homes = c.self.inside.homes.homes;
      stops = c.self.inside.homes.stops;
    } in
    let f = find_epoch v c.args.self.now c.args.epoch c.place_of-place.result c.self.view_is c.self.invariant.live.rise
    c.requires.there (c.place_of-place.ensures.place
    ∙ ap (λ z. place_among c.args.epoch (map epoch_number z)) c.deref.ensures.value) in
    changed_epoch v c.args.self.now c.args.epoch c.place_of-place.result f c.index_mut-live.result.now
    c.begin_check.new.self check_more c.self.view_is c.index_mut-live.ensures.value c.begin_check.ensures
