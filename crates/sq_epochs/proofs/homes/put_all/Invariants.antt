use Rattle.std.proofs.Common.{◌≡◌, ◌+◌, ◌≤◌, ℕ, drop, length, map, is_some, true}
use Rattle.sq_machine.specs.Rising.{Rises, times_of}
use Rattle.sq_epochs.specs.HomeStates.{home_in, home_number, procs_of, with_numbers}
use Rattle.sq_epochs.proofs.homes.put_all.Given as goal

-- what is left to do comes to the same; the processes behind have no stop yet
abbrev pub invariant-loop-home : goal.invariant-loop-home
invariant-loop-home l = record {
  numbers : with_numbers (procs_of l.fn.epoch (drop l.home-index l.homes)) l.stops.numbers
      ≡ with_numbers (procs_of l.fn.epoch l.homes) l.fn.stops.numbers;
  room : length (drop l.home-index l.homes) + length l.stops.numbers ≤ l.stops.room;
  more : l.fn.stops.room ≤ l.stops.room;
  rise : Rises (map home_number (drop l.home-index l.homes));
  apart : (k : ℕ) → is_some (home_in k (drop l.home-index l.homes)) ≡ true → times_of k l.stops.numbers ≡ 0;
}
