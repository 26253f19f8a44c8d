use Rattle.std.proofs.Common.{ap, ◌∙◌, sym}
use Rattle.std.specs.Option.{option_map}
use Rattle.sq_machine.specs.DueActs.{first_of, stops}
use Rattle.sq_epochs.specs.DueStates.{after_due}
use Rattle.sq_epochs.specs.EpochStates.{EpochsState}
use Rattle.sq_epochs.proofs.ActLaws.{after_stop}
use Rattle.sq_epochs.proofs.DueLaws.{drop_first}
use Rattle.sq_epochs.proofs.epochs.Epochs.stop.Goals as goal

pub returns-clause-value : goal.returns-clause-value
returns-clause-value c =
    let v : EpochsState = record {
      current = c.self.inside.current;
      epochs = c.self.inside.epochs.items;
      procs = c.self.inside.homes.given;
      homes = c.self.inside.homes.homes;
      stops = c.self.inside.homes.stops;
    } in
    let n = c.next_stop.new.self in
    ap (λ g. record v { procs = g; homes = n.homes; stops = n.stops }) c.next_stop.ensures.given
    ∙ ap (λ h. record v { homes = h; stops = n.stops }) c.next_stop.ensures.homes
    ∙ ap (λ s. record v { stops = s })
    (c.next_stop.ensures.stops ∙ sym (drop_first v.stops c.self.invariant.homes.stops_rise))
    ∙ sym (after_stop v (first_of v.stops))
    ∙ ap (λ z. after_due (option_map stops (first_of z.stops)) z) c.self.view_is
