-- The records last taken on connections, and the seats in use by number.
use Rattle.std.specs.Prelude.{◌≡◌, ◌⊎◌, ℕ, max, List, true, ◌==◌, Some, None, is_some}
use Rattle.std.specs.Map.{lookup}
use Rattle.std.specs.declared.option.Option.{Option}
use Rattle.sq_machine.specs.declared.places.SeatPlace.{SeatPlace}
use Rattle.sq_machine.specs.declared.places.SeatPlace.TheVariants.{Nowhere, ByAddress, ByTag}
use Rattle.sq_machine.specs.PoolReadings.{Sat}
use Rattle.sq_machine.specs.SeatPlaces.{seat_place}
use Rattle.sq_rules.specs.Configurations.{Configuration}
use Rattle.sq_checks.specs.Records.{Judged}
use Rattle.sq_pools.specs.Basins.{Basin, HasBegun, HasBegunTags, HasLeft, IsBasin, IsGranted, IsRenewed, IsTagRenewed, grant_in, has_pool, has_tag_pool, seat_in}
use Rattle.sq_pools.specs.declared.held_seats.HeldSeat.{HeldSeat}
use Rattle.sq_pools.specs.declared.held_seats.HeldSeat.TheVariants as held
use Rattle.sq_replay.specs.Runs.{BothPools, Rider}

-- where a record is seated, its pool takes its client, or has buckets by tags
abbrev pub IsSeatableAt : Rider → SeatPlace → Type 0
IsSeatableAt r Nowhere = Unit {0}
IsSeatableAt r (ByAddress pool) = has_pool r.config pool r.addr ≡ true
IsSeatableAt r (ByTag pool tag) = has_tag_pool r.config pool ≡ true

abbrev pub IsSeatable : Rider → Type 0
IsSeatable r = IsSeatableAt r r.place

-- what a seat needs of a record
abbrev pub rider_of : Judged → Rider
rider_of r = record {
  epoch = r.epoch;
  config = r.config;
  place = seat_place r.config r.sight r.answers;
  addr = r.sight.addr;
}

-- the record of a connection
abbrev pub rider_at : List (ℕ × Rider) → ℕ → Option Rider
rider_at riders c = lookup (λ k. c == k) riders

-- the seat that is held under a number
abbrev pub held_seat : List (ℕ × HeldSeat) → ℕ → Option HeldSeat
held_seat seats n = lookup (λ k. n == k) seats

-- what is held for a number that is in use in the one pools or in the others
abbrev pub held_for : ℕ → Option Sat → Option Sat → Option HeldSeat
held_for n (Some s) other = Some (held.ByAddress n)
held_for n None (Some s) = Some (held.ByTag n)
held_for n None None = None

-- what holds of pools of both kinds: each is so by itself, they gave the same numbers, and none is
-- in use in both
pub record AreBasins (p : BothPools) : Type 0 where
  pub addressed : IsBasin p.addressed
  pub tagged : IsBasin p.tagged
  pub even : p.tagged.given ≡ p.addressed.given
  pub apart : (n : ℕ) → is_some (seat_in p.addressed n) ≡ true → seat_in p.tagged n ≡ None

-- so it is of pools whose seats in use are held, each under its number
pub record AreHeld (seats : List (ℕ × HeldSeat)) (p : BothPools) : Type 0 where
  pub held_are : (n : ℕ)
      → held_seat seats n ≡ held_for n (seat_in p.addressed n) (seat_in p.tagged n)
  pub even : p.tagged.given ≡ p.addressed.given
  pub apart : (n : ℕ) → is_some (seat_in p.addressed n) ≡ true → seat_in p.tagged n ≡ None

-- the seat of this number is in use in neither
pub record IsHeldNowhere (p : BothPools) (n : ℕ) : Type 0 where
  pub addressed : seat_in p.addressed n ≡ None
  pub tagged : seat_in p.tagged n ≡ None

-- the pools with the generations of this epoch
pub record HaveBegun (p : BothPools) (epoch : ℕ) (c : Configuration) (now : ℕ) : Type 0 where
  pub addressed : HasBegun p.addressed epoch c now
  pub tagged : HasBegunTags p.tagged epoch c now

-- after the generations of this epoch were made
pub record AreRenewed (old new : BothPools) (epoch : ℕ) (c : Configuration)
    (now : ℕ) : Type 0 where
  pub addressed : IsRenewed old.addressed new.addressed epoch c (max now old.addressed.latest)
  pub tagged : IsTagRenewed old.tagged new.tagged epoch c (max now old.tagged.latest)

-- after a grant of so much in the pools in which the seat is in use
pub record IsGrantedIn (old new : Basin) (now n wanted amount : ℕ) : Type 0 where
  pub used : is_some (seat_in old n) ≡ true
  pub amount_is : amount ≡ grant_in old (max now old.latest) wanted (seat_in old n)
  pub granted : IsGranted old new (max now old.latest) amount (seat_in old n)

abbrev pub IsGrantedOf : BothPools → BothPools → ℕ → ℕ → ℕ → ℕ → Type 0
IsGrantedOf old new now n wanted amount =
    (IsGrantedIn old.addressed new.addressed now n wanted amount × (new.tagged ≡ old.tagged))
    ⊎ (IsGrantedIn old.tagged new.tagged now n wanted amount × (new.addressed ≡ old.addressed))

-- after a seat left the pools in which it was in use
pub record HasLeftIn (old new : Basin) (n : ℕ) : Type 0 where
  pub used : is_some (seat_in old n) ≡ true
  pub left : HasLeft old new n

abbrev pub HasLeftOf : BothPools → BothPools → ℕ → Type 0
HasLeftOf old new n =
    (HasLeftIn old.addressed new.addressed n × (new.tagged ≡ old.tagged))
    ⊎ (HasLeftIn old.tagged new.tagged n × (new.addressed ≡ old.addressed))
