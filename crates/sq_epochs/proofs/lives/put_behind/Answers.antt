use Rattle.std.proofs.Common.{ap, ◌∙◌, map, arith}
use Rattle.std.proofs.lemmas.Grind.{common_steps}
use Rattle.sq_machine.specs.Rising.{place_among}
use Rattle.sq_epochs.specs.EpochStates.{epoch_number}
use Rattle.sq_epochs.proofs.BegunLaws.{put_begun}
use Rattle.sq_epochs.proofs.LiveLaws.{place_within}
use Rattle.sq_epochs.proofs.lives.put_behind.Goals as goal

pub index_mut-left-requires : goal.index_mut-left-requires
index_mut-left-requires c =
    let w = place_within c.args.before c.place_of-place.result c.args.epochs.now.items c.requires.rise c.requires.there
    (c.place_of-place.ensures.place ∙ ap (λ z. place_among c.args.before (map epoch_number z)) c.deref.ensures.value) in
    grind (arith, common_steps, w)

pub returns : goal.returns
returns c =
    c.push_reserved.ensures.items
    ∙ put_begun c.args.before c.place_of-place.result c.args.epochs.now.items c.index_mut-left.result.now
    c.inherit.new.before c.args.begun c.inherit.new.self c.requires.rise c.requires.there
    (c.place_of-place.ensures.place ∙ ap (λ z. place_among c.args.before (map epoch_number z)) c.deref.ensures.value)
    c.index_mut-left.ensures.value c.requires.next c.inherit.ensures.left c.inherit.ensures.begun
