-- In the statement: docs/STATEMENT.md lists which definitions.
-- Delay pools over what happens to them: generations, seats, buckets, and what a grant answers
-- (configuration reference, `delay_pools`, `delay_class`, `delay_access`, `delay_parameters`).
-- Pools with buckets by addresses and those with buckets by tags have generations of their own, so
-- each of both kinds has such a history of its own, in which seats of the other kind take numbers
-- alone.
use Rattle.std.specs.Prelude.{◌≡◌, ℕ, ◌+◌, ◌-◌, ◌*◌, ◌/◌, ◌%◌, ⊤, List, [], ◌∷◌, Bool, true, false, ◌&&◌, ◌||◌, ◌==◌, if◌then◌else◌, min, suc, zero, Some, None, is_some, is_none, slice_get, bytes_eq}
use Rattle.std.specs.Option.{option_map, option_or, option_map_or}
use Rattle.std.specs.List.{list_any}
use Rattle.std.specs.declared.option.Option.{Option}
use Rattle.sq_base.specs.Addresses.{Address}
use Rattle.sq_rules.specs.Configurations.{Configuration}
use Rattle.sq_rules.specs.Rates.{Limit}
use Rattle.sq_rules.specs.declared.pools.Pool.{Pool}
use Rattle.sq_machine.specs.BucketLevels.{Tally, drawn, opened_at, seconds}
use Rattle.sq_machine.specs.Checks.{numbered}

-- which buckets a client has

-- a bucket within its generation: its pool, the place of its pair, its host number or its tag, and
-- its limit
pub record BucketSpot : Type 0 where
  pub pool : ℕ
  pub place : ℕ
  pub host : ℕ
  pub limit : Limit
  pub tag : List ℕ

-- the third octet of an IPv4 address
abbrev pub third_octet : ℕ → ℕ
third_octet number = number / 256 % 256

-- the last octet of an IPv4 address
abbrev pub fourth_octet : ℕ → ℕ
fourth_octet number = number % 256

-- the host number of the bucket of a pair, by the pool's class and the pair's place
abbrev pub host_of : ℕ → ℕ → ℕ → ℕ
host_of class place number =
    if place == 0 then 0
    else (if class == 2 then fourth_octet number
    else (if place == 1 then third_octet number
    else third_octet number * 256 + fourth_octet number))

-- the bucket of this place in front of the others, if the pool limits it
abbrev pub spot_if : ℕ → ℕ → ℕ → ℕ → Option Limit → List BucketSpot → List BucketSpot
spot_if pool class place number None rest = rest
spot_if pool class place number (Some r) rest = record {
  pool = pool;
  place = place;
  host = host_of class place number;
  limit = r;
  tag = [];
} ∷ rest

-- the buckets of the pairs, the first of which stands at this place; no limit is no bucket
abbrev pub spots_from : ℕ → ℕ → ℕ → ℕ → List (Option Limit) → List BucketSpot
spots_from pool class number place [] = []
spots_from pool class number place (r ∷ limits) = spot_if pool class place number r
    (spots_from pool class number (suc place) limits)

-- the pairs of a pool that are buckets by addresses: a pool of class 5 has none
abbrev pub bucket_pairs : Pool → List (Option Limit)
bucket_pairs p = if p.class == 5 then [] else p.pairs

-- the buckets of a client in the pool at this place
abbrev pub spots_of : ℕ → Pool → Address → List BucketSpot
spots_of place p a = spots_from place p.class a.number 0 (bucket_pairs p)

-- the buckets of an address in this pool
abbrev pub spots_in : List Pool → ℕ → Address → List BucketSpot
spots_in pools pool a = option_map_or (λ p. spots_of pool p a) (slice_get pools pool) []

-- the bucket of a tag, if the pool limits it
abbrev pub tag_spot_if : ℕ → List ℕ → Option Limit → List BucketSpot
tag_spot_if pool tag None = []
tag_spot_if pool tag (Some r) =
    record { pool = pool; place = 0; host = 0; limit = r; tag = tag } ∷ []

-- the bucket of a tag in the pool at this place: its one pair, where that has a limit
abbrev pub tag_spots_of : ℕ → Pool → List ℕ → List BucketSpot
tag_spots_of place p tag = option_map_or (tag_spot_if place tag) (slice_get p.pairs 0) []

-- the buckets of a tag in this pool
abbrev pub tag_spots_in : List Pool → ℕ → List ℕ → List BucketSpot
tag_spots_in pools pool tag = option_map_or (λ p. tag_spots_of pool p tag) (slice_get pools pool) []

-- whether two limits are the same
abbrev pub same_limit : Limit → Limit → Bool
same_limit a b = a.restore == b.restore && a.max == b.max

-- whether two buckets are the same one
abbrev pub is_spot : BucketSpot → BucketSpot → Bool
is_spot a b = a.pool == b.pool && a.place == b.place && a.host == b.host
    && same_limit a.limit b.limit && bytes_eq a.tag b.tag

-- whether the bucket is among these
abbrev pub has_spot : List BucketSpot → BucketSpot → Bool
has_spot spots s = list_any (λ x. is_spot x s) spots

-- the aggregate bucket of one of these pools
abbrev pub is_aggregate : List Pool → BucketSpot → Bool
is_aggregate pools s = has_spot (spots_in pools s.pool (record { v6 = false; number = 0 })) s
    && s.place == 0

-- what happens to pools

-- a seat as it was given
pub record Sat : Type 0 where
  pub epoch : ℕ
  pub pool : ℕ
  pub spots : List BucketSpot

-- that of a client in a pool of this configuration
abbrev pub sat_in : ℕ → Configuration → ℕ → Address → Sat
sat_in epoch c pool a = record { epoch = epoch; pool = pool; spots = spots_in c.pools pool a }

-- that of a tag
abbrev pub tag_sat_in : ℕ → Configuration → ℕ → List ℕ → Sat
tag_sat_in epoch c pool tag = record {
  epoch = epoch;
  pool = pool;
  spots = tag_spots_in c.pools pool tag;
}

-- what a generation begins with: the percentage at which its buckets open, and the pools whose
-- aggregate buckets open with it
pub record Beginning : Type 0 where
  pub initial : ℕ
  pub pools : List Pool

-- with buckets by addresses
abbrev pub beginning_of : Configuration → Beginning
beginning_of c = record { initial = c.initial; pools = c.pools }

-- with buckets by tags, of which none is aggregate
abbrev pub tag_beginning_of : Configuration → Beginning
tag_beginning_of c = record { initial = c.initial; pools = [] }

-- an epoch begins; a seat of this kind is given; a seat of the other kind takes a number; a seat
-- wants so much and is granted so much; a seat leaves; or something else happens
pub data PoolEvent : Type 0 where
  Begins : ℕ → Beginning → PoolEvent
  Sits : Sat → Beginning → PoolEvent
  Passes : PoolEvent
  Grants : ℕ → ℕ → ℕ → PoolEvent
  Leaves : ℕ → PoolEvent
  Rests : PoolEvent

-- a moment and what happened to the pools then
pub record PoolEntry : Type 0 where
  pub moment : ℕ
  pub event : PoolEvent

-- the newest entry first
abbrev pub PoolHistory : Type 0
PoolHistory = List PoolEntry

-- the moment of the newest entry
abbrev pub latest_in : PoolHistory → ℕ
latest_in [] = 0
latest_in (x ∷ h) = x.moment

-- the newest epoch of the pools after an event
abbrev pub epoch_by : PoolEvent → ℕ → ℕ
epoch_by (Begins e b) before = e
epoch_by event before = before

-- the current epoch
abbrev pub current_in : PoolHistory → ℕ
current_in [] = 1
current_in (x ∷ h) = epoch_by x.event (current_in h)

-- seats

-- the seat that an entry gives
abbrev pub sat_at : PoolEvent → Option Sat
sat_at (Sits sat b) = Some sat
sat_at event = None

-- whether a number is given
abbrev pub takes_number : PoolEvent → Bool
takes_number (Sits sat b) = true
takes_number Passes = true
takes_number event = false

-- the number, and one more where the test holds
abbrev pub count_if : Bool → ℕ → ℕ
count_if true n = suc n
count_if false n = n

-- how many numbers were given to seats
abbrev pub seat_count : PoolHistory → ℕ
seat_count [] = 0
seat_count (x ∷ h) = count_if (takes_number x.event) (seat_count h)

-- seat n took the n-th number, where it is of this kind
abbrev pub seat_of : PoolHistory → ℕ → Option Sat
seat_of [] n = None
seat_of (x ∷ h) n = option_or (numbered n (seat_count h) (sat_at x.event)) (seat_of h n)

-- whether seat n is in use after an event
abbrev pub in_use_after : ℕ → PoolEvent → Bool → Bool → Bool
in_use_after n (Leaves k) born before = if k == n then false else before
in_use_after n event born before = born || before

-- seat n was given and has not left
abbrev pub in_use : PoolHistory → ℕ → Bool
in_use [] n = false
in_use (x ∷ h) n = in_use_after n x.event (is_some (numbered n (seat_count h) (sat_at x.event)))
    (in_use h n)

-- whether the seat belongs to this epoch
abbrev pub is_of_epoch : ℕ → Option Sat → Bool
is_of_epoch e None = false
is_of_epoch e (Some s) = s.epoch == e

-- one of the seats 1 to n is in use and of epoch e
abbrev pub some_in_use : PoolHistory → ℕ → ℕ → Bool
some_in_use h e zero = false
some_in_use h e (suc n) = (in_use h (suc n) && is_of_epoch e (seat_of h (suc n)))
    || some_in_use h e n

-- epoch e is current, or a seat of it is in use
abbrev pub is_needed : PoolHistory → ℕ → Bool
is_needed h e = current_in h == e || some_in_use h e (seat_count h)

-- generations

-- where this entry makes a generation of epoch e, if there is none
abbrev pub makes : ℕ → PoolEvent → Bool
makes e (Begins k b) = e == k
makes e (Sits sat b) = sat.epoch == e
makes e event = false

-- what a generation begins with that this entry makes
abbrev pub beginning_by : PoolEvent → Beginning
beginning_by (Begins e b) = b
beginning_by (Sits sat b) = b
beginning_by event = record { initial = 0; pools = [] }

-- the first moment at which the test held
abbrev pub made_if : Bool → ℕ → Option ℕ → Option ℕ
made_if b moment (Some made) = Some made
made_if true moment None = Some moment
made_if false moment None = None

-- where the test holds, else nothing
abbrev pub kept_if : {A : Type 0} → Bool → Option A → Option A
kept_if true a = a
kept_if false a = None

-- the moment at which the generation of epoch e was made, where there is one
abbrev pub made_of : PoolHistory → ℕ → Option ℕ
made_of [] e = None
made_of (x ∷ h) e = kept_if (is_needed (x ∷ h) e)
    (made_if (makes e x.event) x.moment (made_of h e))

-- the second of a generation that a moment lies in
abbrev pub second_of : ℕ → ℕ → ℕ
second_of made now = (now - made) / 1000

-- the seconds that begin after the one moment and no later than the other
abbrev pub seconds_between : Option ℕ → ℕ → ℕ → ℕ
seconds_between None before now = 0
seconds_between (Some made) before now = second_of made now - second_of made before

-- buckets

-- whether the seat has this bucket in this epoch
abbrev pub names_spot : ℕ → BucketSpot → Option Sat → Bool
names_spot e s None = false
names_spot e s (Some sat) = sat.epoch == e && has_spot sat.spots s

-- where this entry opens the bucket, if there is none: its generation begins with it, or a seat
-- names it
abbrev pub opens : PoolEntry → PoolHistory → ℕ → BucketSpot → Bool
opens x h e s = (is_none (made_of h e) && is_aggregate (beginning_by x.event).pools s)
    || names_spot e s (sat_at x.event)

-- the first tally that was opened
abbrev pub opened_if : Bool → Tally → Option Tally → Option Tally
opened_if b new (Some t) = Some t
opened_if true new None = Some new
opened_if false new None = None

-- what an entry takes from the bucket
abbrev pub takes_at : PoolHistory → ℕ → BucketSpot → PoolEvent → ℕ
takes_at h e s (Grants n wanted amount) = if in_use h n && names_spot e s (seat_of h n) then amount
    else 0
takes_at h e s event = 0

-- the numbers of a bucket up to a moment no earlier than the last entry's: a second after another
abbrev pub until : PoolHistory → ℕ → BucketSpot → ℕ → Option Tally → Option Tally
until h e s now t = option_map (seconds s.limit (seconds_between (made_of h e) (latest_in h) now)) t

-- the numbers of a bucket of the generation of epoch e after the last entry, where it is open
abbrev pub tally_of : PoolHistory → ℕ → BucketSpot → Option Tally
tally_of [] e s = None
tally_of (x ∷ h) e s =
    kept_if (is_some (made_of (x ∷ h) e))
    (option_map (drawn (takes_at h e s x.event))
    (opened_if (opens x h e s) (opened_at (beginning_by x.event).initial s.limit)
    (until h e s x.moment (tally_of h e s))))

-- what a grant answers

-- the level of a bucket; 0 if it was never opened
abbrev pub level_of : Option Tally → ℕ
level_of None = 0
level_of (Some t) = t.level

-- the least of a number and of the levels of these buckets at a moment
abbrev pub least_level : PoolHistory → ℕ → ℕ → List BucketSpot → ℕ → ℕ
least_level h e now [] wanted = wanted
least_level h e now (s ∷ spots) wanted =
    least_level h e now spots (min wanted (level_of (until h e s now (tally_of h e s))))

-- what a grant of so much gives on this seat: the least level of its buckets at most
abbrev pub grant_of : PoolHistory → ℕ → ℕ → Option Sat → ℕ
grant_of h now wanted None = 0
grant_of h now wanted (Some sat) = least_level h sat.epoch now sat.spots wanted

-- each grant is what its seat has, for a seat in use
abbrev pub is_grant : PoolEntry → PoolHistory → PoolEvent → Type 0
is_grant x h (Grants n wanted amount) = in_use h n ≡ true
    → amount ≡ grant_of h x.moment wanted (seat_of h n)
is_grant x h event = ⊤

-- the sum of all grants so far, over all generations
abbrev pub granted_by : PoolHistory → PoolEvent → ℕ → ℕ
granted_by h (Grants n wanted amount) before = if in_use h n then before + amount else before
granted_by h event before = before

abbrev pub granted_of : PoolHistory → ℕ
granted_of [] = 0
granted_of (x ∷ h) = granted_by h x.event (granted_of h)
