-- Which epochs live, and what a check that begins or is over, and the end of an epoch, make of
-- them.
use Rattle.std.specs.Prelude.{◌≡◌, ℕ, suc, ◌-◌, List, map, length, filter, not, Bool, true, ◌&&◌, ◌||◌, ◌==◌, nat_lt, if◌then◌else◌, is_some}
use Rattle.std.specs.List.{list_all}
use Rattle.std.specs.Option.{option_map_or}
use Rattle.sq_machine.specs.Numbered.{picks}
use Rattle.sq_machine.specs.Rising.{AreAbove, AreBelow, Rises}
use Rattle.sq_epochs.specs.EpochStates.{EpochState, EpochsState, change_epoch, epoch_at, epoch_number}
use Rattle.sq_epochs.specs.HomeStates.{other_homes, procs_of, with_numbers}

-- how many checks of an epoch are open; none where it does not live
abbrev pub checks_at : EpochsState → ℕ → ℕ
checks_at v e = option_map_or (λ x. x.checks) (epoch_at v e) 0

-- how many live epochs have an open check
abbrev pub busy_count : EpochsState → ℕ
busy_count v = length (picks (λ e. nat_lt 0 (checks_at v e)) v.current)

-- a check of the epoch is open
abbrev pub has_checks : EpochState → Bool
has_checks x = nat_lt 0 x.checks

-- the epoch is current, or a check of it is open
abbrev pub is_used : ℕ → EpochState → Bool
is_used current x = current == x.epoch || has_checks x

-- the live epochs rise from 1 up to the current one, which is there, and each other one has an open
-- check
pub record AreEpochs (v : EpochsState) : Type 0 where
  pub rise : Rises (map epoch_number v.epochs)
  pub numbered : AreAbove 0 (map epoch_number v.epochs)
  pub born : AreBelow (suc v.current) (map epoch_number v.epochs)
  pub here : is_some (epoch_at v v.current) ≡ true
  pub used : list_all (is_used v.current) v.epochs ≡ true

-- an epoch of which one check more is open
abbrev pub check_more : EpochState → EpochState
check_more x = record x { checks = suc x.checks }

-- an epoch of which one check fewer is open
abbrev pub check_less : EpochState → EpochState
check_less x = record x { checks = x.checks - 1 }

-- a check of this epoch began
abbrev pub after_began : ℕ → EpochsState → EpochsState
after_began e v = record v { epochs = change_epoch e check_more v.epochs }

-- the other epochs
abbrev pub without_epoch : ℕ → List EpochState → List EpochState
without_epoch e epochs = filter (λ x. not (e == x.epoch)) epochs

-- this epoch ends: its processes live no more, and their stops are due
abbrev pub drop_epoch : ℕ → EpochsState → EpochsState
drop_epoch e v = record v {
  epochs = without_epoch e v.epochs;
  homes = other_homes e v.homes;
  stops = with_numbers (procs_of e v.homes) v.stops;
}

-- this epoch ends with its one open check: it is not current
abbrev pub ends_with_check : ℕ → EpochsState → Bool
ends_with_check e v = checks_at v e == 1 && not (e == v.current)

-- a check of this epoch is over
abbrev pub after_ended : ℕ → EpochsState → EpochsState
after_ended e v = if ends_with_check e v then drop_epoch e v
    else record v { epochs = change_epoch e check_less v.epochs }
