use Rattle.std.proofs.Common.{ap, ◌∙◌, map, arith}
use Rattle.std.proofs.lemmas.Grind.{common_steps}
use Rattle.sq_machine.specs.Rising.{place_among}
use Rattle.sq_epochs.specs.EpochStates.{EpochsState, epoch_number}
use Rattle.sq_epochs.proofs.OutcomeLaws.{looked}
use Rattle.sq_epochs.proofs.PartLaws.{find_at, part_here, within_at}
use Rattle.sq_epochs.proofs.epochs.Epochs.look.Goals as goal

pub index-live-requires : goal.index-live-requires
index-live-requires c =
    let v : EpochsState = record {
      current = c.self.inside.current;
      epochs = c.self.inside.epochs.items;
      procs = c.self.inside.homes.given;
      homes = c.self.inside.homes.homes;
      stops = c.self.inside.homes.stops;
    } in
    let f = find_at v c.args.self.now c.args.epoch c.args.class c.place_of-place.result c.self.view_is
    c.self.invariant.live c.requires.there
    (c.place_of-place.ensures.place ∙ ap (λ z. place_among c.args.epoch (map epoch_number z)) c.deref.ensures.value) in
    let w = f.within in
    grind (arith, common_steps, w)

pub look-requires-clause-there : goal.look-requires-clause-there
look-requires-clause-there c =
    let v : EpochsState = record {
      current = c.self.inside.current;
      epochs = c.self.inside.epochs.items;
      procs = c.self.inside.homes.given;
      homes = c.self.inside.homes.homes;
      stops = c.self.inside.homes.stops;
    } in
    let f = find_at v c.args.self.now c.args.epoch c.args.class c.place_of-place.result c.self.view_is
    c.self.invariant.live c.requires.there
    (c.place_of-place.ensures.place ∙ ap (λ z. place_among c.args.epoch (map epoch_number z)) c.deref.ensures.value) in
    within_at v c.args.epoch c.args.class c.place_of-place.result f c.index-live.result.now c.index-live.ensures

pub look-requires-clause-alive : goal.look-requires-clause-alive
look-requires-clause-alive c = λ p at.
    let v : EpochsState = record {
      current = c.self.inside.current;
      epochs = c.self.inside.epochs.items;
      procs = c.self.inside.homes.given;
      homes = c.self.inside.homes.homes;
      stops = c.self.inside.homes.stops;
    } in
    let f = find_at v c.args.self.now c.args.epoch c.args.class c.place_of-place.result c.self.view_is
    c.self.invariant.live c.requires.there
    (c.place_of-place.ensures.place ∙ ap (λ z. place_among c.args.epoch (map epoch_number z)) c.deref.ensures.value) in
    c.requires.alive p (part_here v c.args.self.now c.args.epoch c.args.class c.place_of-place.result f
    c.index-live.result.now c.self.view_is c.index-live.ensures ∙ at)

pub returns : goal.returns
returns c =
    let v : EpochsState = record {
      current = c.self.inside.current;
      epochs = c.self.inside.epochs.items;
      procs = c.self.inside.homes.given;
      homes = c.self.inside.homes.homes;
      stops = c.self.inside.homes.stops;
    } in
    let f = find_at v c.args.self.now c.args.epoch c.args.class c.place_of-place.result c.self.view_is
    c.self.invariant.live c.requires.there
    (c.place_of-place.ensures.place ∙ ap (λ z. place_among c.args.epoch (map epoch_number z)) c.deref.ensures.value) in
    looked c.look.result c.args.proc c.args.line.now _ _
    (part_here v c.args.self.now c.args.epoch c.args.class c.place_of-place.result f c.index-live.result.now
    c.self.view_is c.index-live.ensures) c.look.ensures
