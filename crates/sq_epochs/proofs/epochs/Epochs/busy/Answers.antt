use Rattle.std.proofs.Common.{ap, ◌∙◌, length, filter}
use Rattle.sq_epochs.specs.EpochStates.{EpochsState}
use Rattle.sq_epochs.specs.LiveEpochs.{busy_count, has_checks}
use Rattle.sq_epochs.proofs.NumberLaws.{busy_is}
use Rattle.sq_epochs.proofs.epochs.Epochs.busy.Goals as goal

pub returns : goal.returns
returns c =
    let v : EpochsState = record {
      current = c.self.inside.current;
      epochs = c.self.inside.epochs.items;
      procs = c.self.inside.homes.given;
      homes = c.self.inside.homes.homes;
      stops = c.self.inside.homes.stops;
    } in
    c.busy_among.ensures ∙ ap (λ z. length (filter has_checks z)) c.deref.ensures.value
    ∙ busy_is v c.self.invariant.live ∙ ap busy_count c.self.view_is
