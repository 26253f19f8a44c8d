use Rattle.std.proofs.Common.{refl, ap, ◌∙◌, sym, map, arith}
use Rattle.std.proofs.lemmas.Grind.{common_steps}
use Rattle.sq_machine.specs.Rising.{place_among}
use Rattle.sq_epochs.specs.EpochStates.{EpochsState, epoch_number}
use Rattle.sq_epochs.proofs.HomedLaws.{still_whole}
use Rattle.sq_epochs.proofs.PartLaws.{all_refused, all_resolved, class_here, find_at, part_here, within_at}
use Rattle.sq_epochs.proofs.epochs.Epochs.resolve.Goals as goal

pub index_mut-live-requires : goal.index_mut-live-requires
index_mut-live-requires c =
    let v : EpochsState = record {
      current = c.self.inside.current;
      epochs = c.self.inside.epochs.items;
      procs = c.self.inside.homes.given;
      homes = c.self.inside.homes.homes;
      stops = c.self.inside.homes.stops;
    } in
    let f = find_at v c.args.self.now c.args.epoch c.args.class c.place_of-place.result c.self.view_is
    c.self.invariant.live c.requires.there
    (c.place_of-place.ensures.place ∙ ap (λ z. place_among c.args.epoch (map epoch_number z)) c.deref.ensures.value) in
    let w = f.within in
    grind (arith, common_steps, w)

pub resolve-requires-clause-there : goal.resolve-requires-clause-there
resolve-requires-clause-there c =
    let v : EpochsState = record {
      current = c.self.inside.current;
      epochs = c.self.inside.epochs.items;
      procs = c.self.inside.homes.given;
      homes = c.self.inside.homes.homes;
      stops = c.self.inside.homes.stops;
    } in
    let f = find_at v c.args.self.now c.args.epoch c.args.class c.place_of-place.result c.self.view_is
    c.self.invariant.live c.requires.there
    (c.place_of-place.ensures.place ∙ ap (λ z. place_among c.args.epoch (map epoch_number z)) c.deref.ensures.value) in
    within_at v c.args.epoch c.args.class c.place_of-place.result f c.index_mut-live.result.now
    c.index_mut-live.ensures.value

pub resolve-requires-clause-free : goal.resolve-requires-clause-free
resolve-requires-clause-free c = λ p at.
    let v : EpochsState = record {
      current = c.self.inside.current;
      epochs = c.self.inside.epochs.items;
      procs = c.self.inside.homes.given;
      homes = c.self.inside.homes.homes;
      stops = c.self.inside.homes.stops;
    } in
    let f = find_at v c.args.self.now c.args.epoch c.args.class c.place_of-place.result c.self.view_is
    c.self.invariant.live c.requires.there
    (c.place_of-place.ensures.place ∙ ap (λ z. place_among c.args.epoch (map epoch_number z)) c.deref.ensures.value) in
    c.requires.free p (part_here v c.args.self.now c.args.epoch c.args.class c.place_of-place.result f
    c.index_mut-live.result.now c.self.view_is c.index_mut-live.ensures.value ∙ at)

pub resolve-requires-clause-counted : goal.resolve-requires-clause-counted
resolve-requires-clause-counted c = λ p at.
    let v : EpochsState = record {
      current = c.self.inside.current;
      epochs = c.self.inside.epochs.items;
      procs = c.self.inside.homes.given;
      homes = c.self.inside.homes.homes;
      stops = c.self.inside.homes.stops;
    } in
    let f = find_at v c.args.self.now c.args.epoch c.args.class c.place_of-place.result c.self.view_is
    c.self.invariant.live c.requires.there
    (c.place_of-place.ensures.place ∙ ap (λ z. place_among c.args.epoch (map epoch_number z)) c.deref.ensures.value) in
    c.requires.counted p (part_here v c.args.self.now c.args.epoch c.args.class c.place_of-place.result f
    c.index_mut-live.result.now c.self.view_is c.index_mut-live.ensures.value ∙ at)

pub invariant_of-self : goal.invariant_of-self
invariant_of-self c =
    let v : EpochsState = record {
      current = c.self.inside.current;
      epochs = c.self.inside.epochs.items;
      procs = c.self.inside.homes.given;
      homes = c.self.inside.homes.homes;
      stops = c.self.inside.homes.stops;
    } in
    still_whole v c.place_of-place.result c.index_mut-live.result.now c.resolve.new.self c.self.invariant
    c.index_mut-live.ensures.value c.resolve.ensures.number c.resolve.ensures.checks c.resolve.ensures.alive

pub returns-clause-spent : goal.returns-clause-spent
returns-clause-spent c = λ is p k at_p at_k e.
    let v : EpochsState = record {
      current = c.self.inside.current;
      epochs = c.self.inside.epochs.items;
      procs = c.self.inside.homes.given;
      homes = c.self.inside.homes.homes;
      stops = c.self.inside.homes.stops;
    } in
    let f = find_at v c.args.self.now c.args.epoch c.args.class c.place_of-place.result c.self.view_is
    c.self.invariant.live c.requires.there
    (c.place_of-place.ensures.place ∙ ap (λ z. place_among c.args.epoch (map epoch_number z)) c.deref.ensures.value) in
    c.resolve.ensures.spent is p k
    (sym (part_here v c.args.self.now c.args.epoch c.args.class c.place_of-place.result f c.index_mut-live.result.now
    c.self.view_is c.index_mut-live.ensures.value) ∙ at_p)
    (sym (class_here v c.args.self.now c.args.epoch c.args.class c.place_of-place.result f c.index_mut-live.result.now
    c.self.view_is c.index_mut-live.ensures.value) ∙ at_k) e

pub returns-clause-ok : goal.returns-clause-ok
returns-clause-ok c =
    let v : EpochsState = record {
      current = c.self.inside.current;
      epochs = c.self.inside.epochs.items;
      procs = c.self.inside.homes.given;
      homes = c.self.inside.homes.homes;
      stops = c.self.inside.homes.stops;
    } in
    let f = find_at v c.args.self.now c.args.epoch c.args.class c.place_of-place.result c.self.view_is
    c.self.invariant.live c.requires.there
    (c.place_of-place.ensures.place ∙ ap (λ z. place_among c.args.epoch (map epoch_number z)) c.deref.ensures.value) in
    all_resolved c.resolve.result c.args.key.now c.args.now c.args.check c.args.count v c.args.self.now _ c.args.epoch
    c.args.class c.place_of-place.result f c.index_mut-live.result.now c.resolve.new.self
    c.self.view_is c.index_mut-live.ensures.value refl c.resolve.ensures.ok

pub returns-clause-err : goal.returns-clause-err
returns-clause-err c =
    let v : EpochsState = record {
      current = c.self.inside.current;
      epochs = c.self.inside.epochs.items;
      procs = c.self.inside.homes.given;
      homes = c.self.inside.homes.homes;
      stops = c.self.inside.homes.stops;
    } in
    let f = find_at v c.args.self.now c.args.epoch c.args.class c.place_of-place.result c.self.view_is
    c.self.invariant.live c.requires.there
    (c.place_of-place.ensures.place ∙ ap (λ z. place_among c.args.epoch (map epoch_number z)) c.deref.ensures.value) in
    all_refused c.resolve.result v c.args.self.now _ c.args.epoch c.args.class c.place_of-place.result f
    c.index_mut-live.result.now c.resolve.new.self
    c.self.view_is c.index_mut-live.ensures.value refl c.resolve.ensures.err
