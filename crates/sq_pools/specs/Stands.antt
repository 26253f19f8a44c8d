-- Pools that stand for what happened to them: each part of them is its reading.
use Rattle.std.specs.Prelude.{◌≡◌, ℕ, ◌≤◌, Some, min}
use Rattle.sq_machine.specs.PoolReadings.{BucketSpot, PoolEntry, PoolEvent, PoolHistory, Sat, current_in, granted_of, in_use, kept_if, latest_in, made_of, seat_count, seat_of, tally_of}
use Rattle.sq_pools.specs.Basins.{Basin, granted_limit, made_in, seat_in, tally_then}

-- the pools stand for a history of what happened to them, whose moments may be later than theirs;
-- no seat in use is of an epoch that has not begun
pub record PoolsStand (p : Basin) (h : PoolHistory) : Type 0 where
  pub made_is : (e : ℕ) → made_in p e ≡ made_of h e
  pub buckets_are : (e : ℕ) (s : BucketSpot) → tally_then p (latest_in h) e s ≡ tally_of h e s
  pub seats_are : (n : ℕ) → seat_in p n ≡ kept_if (in_use h n) (seat_of h n)
  pub given_is : p.given ≡ seat_count h
  pub newest_is : p.newest ≡ current_in h
  pub latest_is : p.latest ≤ latest_in h
  pub granted_is : p.granted ≡ min granted_limit (granted_of h)
  pub begun_are : (n : ℕ) (sat : Sat) → seat_in p n ≡ Some sat → sat.epoch ≤ current_in h

-- what happens to pools at a moment
abbrev pub entry : ℕ → PoolEvent → PoolEntry
entry moment event = record { moment = moment; event = event }
