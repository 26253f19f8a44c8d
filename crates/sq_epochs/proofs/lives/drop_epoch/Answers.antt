use Rattle.std.proofs.Common.{ap, ◌∙◌, map, arith}
use Rattle.std.proofs.lemmas.Grind.{common_steps}
use Rattle.std.specs.List.{remove}
use Rattle.sq_machine.specs.Rising.{place_among}
use Rattle.sq_epochs.specs.EpochStates.{epoch_number}
use Rattle.sq_epochs.proofs.DropLaws.{removed}
use Rattle.sq_epochs.proofs.LiveLaws.{place_within}
use Rattle.sq_epochs.proofs.lives.drop_epoch.Goals as goal

pub remove-ended-requires : goal.remove-ended-requires
remove-ended-requires c =
    let w = place_within c.args.epoch c.place_of-place.result c.args.epochs.now.items c.requires.rise c.requires.there
    (c.place_of-place.ensures.place ∙ ap (λ z. place_among c.args.epoch (map epoch_number z)) c.deref.ensures.value) in
    grind (arith, common_steps, w)

pub returns-clause-epochs : goal.returns-clause-epochs
returns-clause-epochs c =
    c.remove-ended.ensures.items
    ∙ ap (remove c.args.epochs.now.items)
    (c.place_of-place.ensures.place ∙ ap (λ z. place_among c.args.epoch (map epoch_number z)) c.deref.ensures.value)
    ∙ removed c.args.epoch c.args.epochs.now.items c.requires.rise c.requires.there
