-- What pools hold, and what each of their calls changes (configuration reference, `delay_pools`,
-- `delay_class`, `delay_access`, `delay_parameters`, `delay_initial_bucket_level`).
use Rattle.std.specs.Prelude.{◌≡◌, ℕ, ◌+◌, ◌≤◌, ◌<◌, ◌^◌, List, [], Bool, true, false, not, ◌&&◌, ◌||◌, ◌==◌, if◌then◌else◌, min, max, suc, Some, None, is_some, is_none, slice_get}
use Rattle.std.specs.List.{list_any}
use Rattle.std.specs.Option.{option_map, option_map_or}
use Rattle.std.specs.declared.option.Option.{Option}
use Rattle.sq_base.specs.Addresses.{Address}
use Rattle.sq_machine.specs.BucketLevels.{Filled, Tally, filled_to}
use Rattle.sq_rules.specs.Configurations.{Configuration}
use Rattle.sq_machine.specs.Limits.{last_number}
use Rattle.sq_machine.specs.PoolReadings.{Beginning, Sat, BucketSpot, beginning_of, has_spot, is_aggregate, kept_if, made_if, names_spot, sat_in, tag_beginning_of, tag_sat_in}
use Rattle.sq_machine.specs.SeatPlaces.{has_tags}
use Rattle.sq_rules.specs.Verdicts.{is_passed_over}
use Rattle.sq_pools.specs.Generations.{buckets_at, filled_at, held_at, made_at, second_at}
use Rattle.sq_buckets.specs.Grants.{are_own, filled_if, granted_if, least_at, opened_in}
use Rattle.sq_pools.specs.Seats.{seat_at, seats_of}
use Rattle.sq_pools.specs.declared.generations.Generation.{Generation}

-- generations by epoch, seats in use by number, how many seats were given, the epoch of the newest
-- generation, the greatest moment so far, and what was granted
pub record Basin : Type 0 where
  pub generations : List (ℕ × Generation)
  pub seats : List (ℕ × Sat)
  pub given : ℕ
  pub newest : ℕ
  pub latest : ℕ
  pub granted : ℕ

-- more than this is not counted: the sum of all grants stays there
abbrev pub granted_limit : ℕ
granted_limit = 2 ^ 127

-- the moment at which the generation of an epoch was made
abbrev pub made_in : Basin → ℕ → Option ℕ
made_in p e = made_at p.generations e

-- the bucket of a name in the generation of an epoch, as it was last reckoned
abbrev pub bucket_in : Basin → ℕ → BucketSpot → Option Filled
bucket_in p e s = filled_at p.generations e s

-- the seat of a number, if it is in use
abbrev pub seat_in : Basin → ℕ → Option Sat
seat_in p n = seat_at p.seats n

-- the second of its generation that a moment lies in
abbrev pub second_in : Basin → ℕ → ℕ → ℕ
second_in p e now = second_at p.generations e now

-- some seat in use is of this epoch
abbrev pub is_held : Basin → ℕ → Bool
is_held p e = not (seats_of p.seats e p.given == 0)

-- what has no seat and is not the newest goes
abbrev pub stays : Basin → ℕ → Bool
stays p e = e == p.newest || is_held p e

-- the numbers of a bucket at a moment
abbrev pub tally_then : Basin → ℕ → ℕ → BucketSpot → Option Tally
tally_then p now e s = option_map (λ f. (filled_to (second_in p e now) f).tally) (bucket_in p e s)

-- what a seat is granted at a moment; a seat that is not in use is granted nothing
abbrev pub grant_in : Basin → ℕ → ℕ → Option Sat → ℕ
grant_in p now wanted None = 0
grant_in p now wanted (Some sat) = least_at (second_in p sat.epoch now)
    (buckets_at p.generations sat.epoch) sat.spots wanted

-- the seat is not in use, or a bucket of it is at level 0 at this moment
abbrev pub is_dry : Basin → ℕ → Option Sat → Bool
is_dry p now None = true
is_dry p now (Some sat) = list_any
    (λ s. option_map_or (λ t. t.level == 0) (tally_then p now sat.epoch s) false) sat.spots

-- pools with the one generation of this epoch and no seat
pub record IsFirst (p : Basin) (epoch : ℕ) (b : Beginning) (now : ℕ) : Type 0 where
  pub made : (e : ℕ) → made_in p e ≡ made_if (e == epoch) now None
  pub buckets : (e : ℕ) (s : BucketSpot)
      → bucket_in p e s ≡ filled_if (e == epoch && is_aggregate b.pools s)
      (opened_in b.initial 0 s) None
  pub seats : p.seats ≡ []
  pub given : p.given ≡ 0
  pub newest : p.newest ≡ epoch
  pub latest : p.latest ≡ now
  pub granted : p.granted ≡ 0

-- after a generation was made: it is there, with its aggregate buckets; what is not needed any more
-- has gone
pub record IsBegun (old new : Basin) (epoch : ℕ) (b : Beginning) (now : ℕ) : Type 0 where
  pub made : (e : ℕ) → made_in new e
      ≡ kept_if (stays new e) (made_if (e == epoch) now (made_in old e))
  pub buckets : (e : ℕ) (s : BucketSpot) → bucket_in new e s
      ≡ kept_if (stays new e) (filled_if (e == epoch && is_aggregate b.pools s)
      (opened_in b.initial 0 s) (bucket_in old e s))
  pub seats : new.seats ≡ old.seats
  pub given : new.given ≡ old.given
  pub newest : new.newest ≡ epoch
  pub latest : new.latest ≡ now
  pub granted : new.granted ≡ old.granted

-- after a seat was given: its generation is there, and so is each bucket that it names
pub record IsSeated (old new : Basin) (sat : Sat) (b : Beginning) (now : ℕ) : Type 0 where
  pub made : (e : ℕ) → made_in new e
      ≡ kept_if (stays new e) (made_if (e == sat.epoch) now (made_in old e))
  pub buckets : (e : ℕ) (s : BucketSpot) → bucket_in new e s
      ≡ kept_if (stays new e) (filled_if
      (e == sat.epoch && (has_spot sat.spots s
      || (is_none (made_in old e) && is_aggregate b.pools s)))
      (opened_in b.initial (second_in new e now) s) (bucket_in old e s))
  pub seats : (n : ℕ) → seat_in new n ≡ (if n == suc old.given then Some sat else seat_in old n)
  pub given : new.given ≡ suc old.given
  pub newest : new.newest ≡ max old.newest sat.epoch
  pub latest : new.latest ≡ now
  pub granted : new.granted ≡ old.granted

-- the same for pools with buckets by addresses
abbrev pub HasBegun : Basin → ℕ → Configuration → ℕ → Type 0
HasBegun p epoch c now = IsFirst p epoch (beginning_of c) now

abbrev pub IsRenewed : Basin → Basin → ℕ → Configuration → ℕ → Type 0
IsRenewed old new epoch c now = IsBegun old new epoch (beginning_of c) now

abbrev pub IsChosen : Basin → Basin → ℕ → Configuration → ℕ → Address → ℕ → Type 0
IsChosen old new epoch c pool a now = IsSeated old new (sat_in epoch c pool a) (beginning_of c) now

-- and for those with buckets by tags
abbrev pub HasBegunTags : Basin → ℕ → Configuration → ℕ → Type 0
HasBegunTags p epoch c now = IsFirst p epoch (tag_beginning_of c) now

abbrev pub IsTagRenewed : Basin → Basin → ℕ → Configuration → ℕ → Type 0
IsTagRenewed old new epoch c now = IsBegun old new epoch (tag_beginning_of c) now

abbrev pub IsTagChosen : Basin → Basin → ℕ → Configuration → ℕ → List ℕ → ℕ → Type 0
IsTagChosen old new epoch c pool tag now = IsSeated old new (tag_sat_in epoch c pool tag)
    (tag_beginning_of c) now

-- after a number was given to a seat elsewhere
abbrev pub HasPassed : Basin → Basin → Type 0
HasPassed old new = new ≡ record {
  generations = old.generations;
  seats = old.seats;
  given = suc old.given;
  newest = old.newest;
  latest = old.latest;
  granted = old.granted;
}

-- after a grant of so much: each bucket of the seat has granted it, and nothing else has changed
pub record IsGranted (old new : Basin) (now amount : ℕ) (sat : Option Sat) : Type 0 where
  pub made : (e : ℕ) → made_in new e ≡ made_in old e
  pub buckets : (e : ℕ) (s : BucketSpot)
      → bucket_in new e s ≡ option_map
      (granted_if (names_spot e s sat) (second_in old e now) amount) (bucket_in old e s)
  pub seats : new.seats ≡ old.seats
  pub given : new.given ≡ old.given
  pub newest : new.newest ≡ old.newest
  pub latest : new.latest ≡ now
  pub granted : new.granted ≡ min granted_limit (old.granted + amount)

-- after a seat was given up: its generation goes where it is not the newest and has no other seat
pub record HasLeft (old new : Basin) (n : ℕ) : Type 0 where
  pub made : (e : ℕ) → made_in new e ≡ kept_if (stays new e) (made_in old e)
  pub buckets : (e : ℕ) (s : BucketSpot)
      → bucket_in new e s ≡ kept_if (stays new e) (bucket_in old e s)
  pub seats : (k : ℕ) → seat_in new k ≡ (if k == n then None else seat_in old k)
  pub given : new.given ≡ old.given
  pub newest : new.newest ≡ old.newest
  pub latest : new.latest ≡ old.latest
  pub granted : new.granted ≡ old.granted

-- the i-th bucket of a seat in use
abbrev pub spot_at : Option Sat → ℕ → Option BucketSpot
spot_at None i = None
spot_at (Some sat) i = slice_get sat.spots i

abbrev pub epoch_in : Option Sat → ℕ
epoch_in None = 0
epoch_in (Some sat) = sat.epoch

abbrev pub tally_at : Basin → ℕ → Option BucketSpot → Option Tally
tally_at p e None = None
tally_at p e (Some s) = tally_then p p.latest e s

-- the pool at this place has buckets by tags
abbrev pub has_tag_pool : Configuration → ℕ → Bool
has_tag_pool c pool = has_tags c.pools pool

-- a pool of this configuration takes the address: it is there, does not pass over it, and has
-- buckets by addresses
abbrev pub has_pool : Configuration → ℕ → Address → Bool
has_pool c pool a =
    option_map_or (λ p. not (is_passed_over a p)) (slice_get c.pools pool) false
    && not (has_tag_pool c pool)

-- what holds of pools: seats in use have numbers that were given, each is counted by its generation
-- and names its buckets once, and these are open; a generation is the newest or has a seat in use;
-- no bucket is reckoned past the greatest moment
pub record IsBasin (p : Basin) : Type 0 where
  pub numbers : (n : ℕ) → is_some (seat_in p n) ≡ true → (0 < n) × (n ≤ p.given)
  pub counted : (e : ℕ) → held_at p.generations e ≡ seats_of p.seats e p.given
  pub lives : (e : ℕ) → is_some (made_in p e) ≡ true → stays p e ≡ true
  pub opened : (n : ℕ) (sat : Sat) (s : BucketSpot) → seat_in p n ≡ Some sat
      → has_spot sat.spots s ≡ true → is_some (bucket_in p sat.epoch s) ≡ true
  pub own : (n : ℕ) (sat : Sat) → seat_in p n ≡ Some sat → are_own sat.spots ≡ true
  pub limits : (e : ℕ) (s : BucketSpot) (f : Filled) → bucket_in p e s ≡ Some f → f.limit ≡ s.limit
  pub reckoned : (e : ℕ) (s : BucketSpot) (f : Filled) → bucket_in p e s ≡ Some f
      → f.second ≤ second_in p e p.latest
  pub spare : suc p.given ≤ last_number
  pub few : p.granted ≤ granted_limit
