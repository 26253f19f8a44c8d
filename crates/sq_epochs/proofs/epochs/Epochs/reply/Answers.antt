use Rattle.std.proofs.Common.{refl, ap, ◌∙◌, map, arith}
use Rattle.std.proofs.lemmas.Grind.{common_steps}
use Rattle.sq_machine.specs.Rising.{place_among}
use Rattle.sq_class.specs.Parts.{IsAsBefore}
use Rattle.sq_epochs.specs.EpochStates.{EpochsState, epoch_number}
use Rattle.sq_epochs.proofs.HomedLaws.{still_whole}
use Rattle.sq_epochs.proofs.OutcomeLaws.{all_replied, err_lifted}
use Rattle.sq_epochs.proofs.PartLaws.{find_at, part_here, within_at}
use Rattle.sq_epochs.proofs.epochs.Epochs.reply.Goals as goal

pub index_mut-live-requires : goal.index_mut-live-requires
index_mut-live-requires c =
    let v : EpochsState = record {
      current = c.self.inside.current;
      epochs = c.self.inside.epochs.items;
      procs = c.self.inside.homes.given;
      homes = c.self.inside.homes.homes;
      stops = c.self.inside.homes.stops;
    } in
    let f = find_at v c.args.self.now c.args.epoch c.args.class c.place_of-place.result c.self.view_is
    c.self.invariant.live c.requires.there
    (c.place_of-place.ensures.place ∙ ap (λ z. place_among c.args.epoch (map epoch_number z)) c.deref.ensures.value) in
    let w = f.within in
    grind (arith, common_steps, w)

pub reply-requires-clause-there : goal.reply-requires-clause-there
reply-requires-clause-there c =
    let v : EpochsState = record {
      current = c.self.inside.current;
      epochs = c.self.inside.epochs.items;
      procs = c.self.inside.homes.given;
      homes = c.self.inside.homes.homes;
      stops = c.self.inside.homes.stops;
    } in
    let f = find_at v c.args.self.now c.args.epoch c.args.class c.place_of-place.result c.self.view_is
    c.self.invariant.live c.requires.there
    (c.place_of-place.ensures.place ∙ ap (λ z. place_among c.args.epoch (map epoch_number z)) c.deref.ensures.value) in
    within_at v c.args.epoch c.args.class c.place_of-place.result f c.index_mut-live.result.now
    c.index_mut-live.ensures.value

pub reply-requires-clause-opened : goal.reply-requires-clause-opened
reply-requires-clause-opened c = λ p at.
    let v : EpochsState = record {
      current = c.self.inside.current;
      epochs = c.self.inside.epochs.items;
      procs = c.self.inside.homes.given;
      homes = c.self.inside.homes.homes;
      stops = c.self.inside.homes.stops;
    } in
    let f = find_at v c.args.self.now c.args.epoch c.args.class c.place_of-place.result c.self.view_is
    c.self.invariant.live c.requires.there
    (c.place_of-place.ensures.place ∙ ap (λ z. place_among c.args.epoch (map epoch_number z)) c.deref.ensures.value) in
    c.requires.opened p (part_here v c.args.self.now c.args.epoch c.args.class c.place_of-place.result f
    c.index_mut-live.result.now c.self.view_is c.index_mut-live.ensures.value ∙ at)

pub invariant_of-self : goal.invariant_of-self
invariant_of-self c =
    let v : EpochsState = record {
      current = c.self.inside.current;
      epochs = c.self.inside.epochs.items;
      procs = c.self.inside.homes.given;
      homes = c.self.inside.homes.homes;
      stops = c.self.inside.homes.stops;
    } in
    still_whole v c.place_of-place.result c.index_mut-live.result.now c.reply.new.self c.self.invariant
    c.index_mut-live.ensures.value c.reply.ensures.number c.reply.ensures.checks c.reply.ensures.alive

pub returns-clause-ok : goal.returns-clause-ok
returns-clause-ok c =
    let v : EpochsState = record {
      current = c.self.inside.current;
      epochs = c.self.inside.epochs.items;
      procs = c.self.inside.homes.given;
      homes = c.self.inside.homes.homes;
      stops = c.self.inside.homes.stops;
    } in
    let f = find_at v c.args.self.now c.args.epoch c.args.class c.place_of-place.result c.self.view_is
    c.self.invariant.live c.requires.there
    (c.place_of-place.ensures.place ∙ ap (λ z. place_among c.args.epoch (map epoch_number z)) c.deref.ensures.value) in
    all_replied c.reply.result c.args.proc c.args.question c.args.key c.args.what c.args.date v c.args.self.now _
    c.args.epoch c.args.class c.place_of-place.result f c.index_mut-live.result.now c.reply.new.self c.self.view_is
    c.index_mut-live.ensures.value refl c.reply.ensures.ok

pub returns-clause-err : goal.returns-clause-err
returns-clause-err c =
    let v : EpochsState = record {
      current = c.self.inside.current;
      epochs = c.self.inside.epochs.items;
      procs = c.self.inside.homes.given;
      homes = c.self.inside.homes.homes;
      stops = c.self.inside.homes.stops;
    } in
    let f = find_at v c.args.self.now c.args.epoch c.args.class c.place_of-place.result c.self.view_is
    c.self.invariant.live c.requires.there
    (c.place_of-place.ensures.place ∙ ap (λ z. place_among c.args.epoch (map epoch_number z)) c.deref.ensures.value) in
    err_lifted c.reply.result v c.args.self.now _ c.args.epoch c.args.class c.place_of-place.result f
    c.index_mut-live.result.now c.reply.new.self IsAsBefore c.self.view_is c.index_mut-live.ensures.value refl
    c.reply.ensures.err
