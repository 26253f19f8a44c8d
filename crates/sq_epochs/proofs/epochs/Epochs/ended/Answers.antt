use Rattle.std.proofs.Common.{◌≡◌, ◌<◌, false, sym, subst, ap, ◌∙◌, map, arith}
use Rattle.std.proofs.lemmas.Grind.{common_steps}
use Rattle.sq_channel.proofs.RisingLaws.{if_false}
use Rattle.sq_machine.specs.Rising.{place_among}
use Rattle.sq_epochs.specs.EpochStates.{EpochsState, change_epoch, epoch_number}
use Rattle.sq_epochs.specs.LiveEpochs.{check_less, drop_epoch, ends_with_check, is_used, without_epoch}
use Rattle.sq_epochs.specs.HomeStates.{other_homes, procs_of, with_numbers}
use Rattle.sq_epochs.proofs.HomedLaws.{dropped_whole, used_whole}
use Rattle.sq_epochs.proofs.DropLaws.{has_others, kept_current, last_here, not_same}
use Rattle.sq_epochs.proofs.LiveLaws.{changed_epoch, checks_here, find_epoch, less_used, open_there}
use Rattle.sq_epochs.proofs.epochs.Epochs.ended.Goals as goal
use Rattle.sq_epochs.proofs.epochs.Epochs.ended.Goals.{else-last-via-then-last+else-epoch-self, else-last-via-else-last}

pub invariant_of-self : goal.invariant_of-self
invariant_of-self c =
    let v : EpochsState = record {
      current = c.self.inside.current;
      epochs = c.self.inside.epochs.items;
      procs = c.self.inside.homes.given;
      homes = c.self.inside.homes.homes;
      stops = c.self.inside.homes.stops;
    } in
    dropped_whole v _ c.args.epoch c.self.invariant
    (not_same c.args.epoch v.current
    (λ q. c.if-epoch-self.true (c.epoch.view_is ∙ q ∙ sym (ap (λ i. i.current) c.self-inside.view_is))))
    (ap (λ i. i.current) c.self-inside.view_is)
    (c.drop_epoch.ensures.epochs ∙ ap (λ i. without_epoch c.args.epoch i.epochs.items) c.self-inside.view_is)
    (c.drop_epoch.ensures.given ∙ ap (λ i. i.homes.given) c.self-inside.view_is)
    (c.drop_epoch.ensures.homes ∙ ap (λ i. other_homes c.args.epoch i.homes.homes) c.self-inside.view_is)
    (c.drop_epoch.ensures.stops
    ∙ ap (λ i. with_numbers (procs_of c.args.epoch i.homes.homes) i.homes.stops) c.self-inside.view_is)

pub index_mut-live-requires : goal.index_mut-live-requires
index_mut-live-requires c =
    let v : EpochsState = record {
      current = c.self.inside.current;
      epochs = c.self.inside.epochs.items;
      procs = c.self.inside.homes.given;
      homes = c.self.inside.homes.homes;
      stops = c.self.inside.homes.stops;
    } in
    let f = find_epoch v c.args.self.now c.args.epoch c.place_of-place.result c.self.view_is c.self.invariant.live.rise
    (open_there c.args.self.now c.args.epoch c.requires)
    (c.place_of-place.ensures.place ∙ ap (λ z. place_among c.args.epoch (map epoch_number z)) c.deref.ensures.value) in
    let w = f.within in
    grind (arith, common_steps, w)

pub end_check-requires : goal.end_check-requires
end_check-requires c =
    let v : EpochsState = record {
      current = c.self.inside.current;
      epochs = c.self.inside.epochs.items;
      procs = c.self.inside.homes.given;
      homes = c.self.inside.homes.homes;
      stops = c.self.inside.homes.stops;
    } in
    let f = find_epoch v c.args.self.now c.args.epoch c.place_of-place.result c.self.view_is c.self.invariant.live.rise
    (open_there c.args.self.now c.args.epoch c.requires)
    (c.place_of-place.ensures.place ∙ ap (λ z. place_among c.args.epoch (map epoch_number z)) c.deref.ensures.value) in
    subst (λ n. 0 < n) (checks_here v c.args.self.now c.args.epoch c.place_of-place.result f c.index_mut-live.result.now
    c.self.view_is c.index_mut-live.ensures.value) c.requires

pub invariant_of-self-2 : goal.invariant_of-self-2
invariant_of-self-2 c =
    let v : EpochsState = record {
      current = c.self.inside.current;
      epochs = c.self.inside.epochs.items;
      procs = c.self.inside.homes.given;
      homes = c.self.inside.homes.homes;
      stops = c.self.inside.homes.stops;
    } in
    let f = find_epoch v c.args.self.now c.args.epoch c.place_of-place.result c.self.view_is c.self.invariant.live.rise
    (open_there c.args.self.now c.args.epoch c.requires)
    (c.place_of-place.ensures.place ∙ ap (λ z. place_among c.args.epoch (map epoch_number z)) c.deref.ensures.value) in
    let not_last : ends_with_check c.args.epoch c.args.self.now ≡ false = elim c.else-last.branch [
      | else-last-via-then-last+else-epoch-self w ↦
          kept_current c.args.epoch c.args.self.now
          (sym w.epoch.view_is ∙ w.if-epoch-self.false ∙ ap (λ i. i.current) c.self-inside.view_is
          ∙ ap (λ z. z.current) c.self.view_is)
      | else-last-via-else-last w ↦
          has_others c.args.epoch c.args.self.now c.checks-checks.result c.checks-checks.ensures w.if-last.false
    ] in
    let x = c.index_mut-live.result.now in
    let checks = checks_here v c.args.self.now c.args.epoch c.place_of-place.result f x c.self.view_is
    c.index_mut-live.ensures.value in
    used_whole v c.place_of-place.result x c.end_check.new.self c.self.invariant f.within c.index_mut-live.ensures.value
    (ap epoch_number c.end_check.ensures)
    (ap (is_used v.current) c.end_check.ensures
    ∙ less_used v.current c.args.epoch x (ap epoch_number (c.index_mut-live.ensures.value ∙ f.at x) ∙ f.placed.number)
    (subst (λ n. 0 < n) checks c.requires)
    (last_here c.args.epoch v c.args.self.now x.checks c.self.view_is checks not_last)) (ap (λ z. z.parts)
    c.end_check.ensures)

pub returns : goal.returns
returns c =
    let v : EpochsState = record {
      current = c.self.inside.current;
      epochs = c.self.inside.epochs.items;
      procs = c.self.inside.homes.given;
      homes = c.self.inside.homes.homes;
      stops = c.self.inside.homes.stops;
    } in
    let f = find_epoch v c.args.self.now c.args.epoch c.place_of-place.result c.self.view_is c.self.invariant.live.rise
    (open_there c.args.self.now c.args.epoch c.requires)
    (c.place_of-place.ensures.place ∙ ap (λ z. place_among c.args.epoch (map epoch_number z)) c.deref.ensures.value) in
    let not_last : ends_with_check c.args.epoch c.args.self.now ≡ false = elim c.else-last.branch [
      | else-last-via-then-last+else-epoch-self w ↦
          kept_current c.args.epoch c.args.self.now
          (sym w.epoch.view_is ∙ w.if-epoch-self.false ∙ ap (λ i. i.current) c.self-inside.view_is
          ∙ ap (λ z. z.current) c.self.view_is)
      | else-last-via-else-last w ↦
          has_others c.args.epoch c.args.self.now c.checks-checks.result c.checks-checks.ensures w.if-last.false
    ] in
    changed_epoch v c.args.self.now c.args.epoch c.place_of-place.result f c.index_mut-live.result.now
    c.end_check.new.self check_less c.self.view_is c.index_mut-live.ensures.value c.end_check.ensures
    ∙ sym (if_false (ends_with_check c.args.epoch c.args.self.now) (drop_epoch c.args.epoch c.args.self.now)
    (record c.args.self.now { epochs = change_epoch c.args.epoch check_less c.args.self.now.epochs }) not_last)
