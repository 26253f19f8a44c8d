use Rattle.std.proofs.Common.{ap, ◌∙◌, sym, map, arith}
use Rattle.std.proofs.lemmas.Grind.{common_steps}
use Rattle.sq_machine.specs.Rising.{place_among}
use Rattle.sq_epochs.specs.EpochStates.{EpochsState, epoch_number}
use Rattle.sq_epochs.proofs.OutcomeLaws.{more_some}
use Rattle.sq_epochs.proofs.PartLaws.{find_at, part_here, within_at}
use Rattle.sq_epochs.proofs.epochs.Epochs.waiting.Goals as goal

pub index-live-requires : goal.index-live-requires
index-live-requires c =
    let v : EpochsState = record {
      current = c.self.inside.current;
      epochs = c.self.inside.epochs.items;
      procs = c.self.inside.homes.given;
      homes = c.self.inside.homes.homes;
      stops = c.self.inside.homes.stops;
    } in
    let f = find_at v c.args.self.now c.args.epoch c.args.class c.place_of-place.result c.self.view_is
    c.self.invariant.live c.requires.there
    (c.place_of-place.ensures.place ∙ ap (λ z. place_among c.args.epoch (map epoch_number z)) c.deref.ensures.value) in
    let w = f.within in
    grind (arith, common_steps, w)

pub waiting-requires : goal.waiting-requires
waiting-requires c =
    let v : EpochsState = record {
      current = c.self.inside.current;
      epochs = c.self.inside.epochs.items;
      procs = c.self.inside.homes.given;
      homes = c.self.inside.homes.homes;
      stops = c.self.inside.homes.stops;
    } in
    let f = find_at v c.args.self.now c.args.epoch c.args.class c.place_of-place.result c.self.view_is
    c.self.invariant.live c.requires.there
    (c.place_of-place.ensures.place ∙ ap (λ z. place_among c.args.epoch (map epoch_number z)) c.deref.ensures.value) in
    record {
      there = within_at v c.args.epoch c.args.class c.place_of-place.result f c.index-live.result.now
          c.index-live.ensures;
    }

pub returns-clause-open : goal.returns-clause-open
returns-clause-open c = λ p at.
    let v : EpochsState = record {
      current = c.self.inside.current;
      epochs = c.self.inside.epochs.items;
      procs = c.self.inside.homes.given;
      homes = c.self.inside.homes.homes;
      stops = c.self.inside.homes.stops;
    } in
    let f = find_at v c.args.self.now c.args.epoch c.args.class c.place_of-place.result c.self.view_is
    c.self.invariant.live c.requires.there
    (c.place_of-place.ensures.place ∙ ap (λ z. place_among c.args.epoch (map epoch_number z)) c.deref.ensures.value) in
    c.waiting.ensures.open p
    (sym (part_here v c.args.self.now c.args.epoch c.args.class c.place_of-place.result f c.index-live.result.now
    c.self.view_is c.index-live.ensures) ∙ at)

pub returns-clause-sent : goal.returns-clause-sent
returns-clause-sent c = λ p at.
    let v : EpochsState = record {
      current = c.self.inside.current;
      epochs = c.self.inside.epochs.items;
      procs = c.self.inside.homes.given;
      homes = c.self.inside.homes.homes;
      stops = c.self.inside.homes.stops;
    } in
    let f = find_at v c.args.self.now c.args.epoch c.args.class c.place_of-place.result c.self.view_is
    c.self.invariant.live c.requires.there
    (c.place_of-place.ensures.place ∙ ap (λ z. place_among c.args.epoch (map epoch_number z)) c.deref.ensures.value) in
    c.waiting.ensures.sent p
    (sym (part_here v c.args.self.now c.args.epoch c.args.class c.place_of-place.result f c.index-live.result.now
    c.self.view_is c.index-live.ensures) ∙ at)

pub returns-clause-listed : goal.returns-clause-listed
returns-clause-listed c =
    let v : EpochsState = record {
      current = c.self.inside.current;
      epochs = c.self.inside.epochs.items;
      procs = c.self.inside.homes.given;
      homes = c.self.inside.homes.homes;
      stops = c.self.inside.homes.stops;
    } in
    let f = find_at v c.args.self.now c.args.epoch c.args.class c.place_of-place.result c.self.view_is
    c.self.invariant.live c.requires.there
    (c.place_of-place.ensures.place ∙ ap (λ z. place_among c.args.epoch (map epoch_number z)) c.deref.ensures.value) in
    let here = part_here v c.args.self.now c.args.epoch c.args.class c.place_of-place.result f c.index-live.result.now
    c.self.view_is c.index-live.ensures in
    more_some c.waiting.result _ _ c.waiting.ensures.listed (λ r l p at. l p (sym here ∙ at))
