-- In the statement: docs/STATEMENT.md lists which definitions.
-- What a history says to delay pools: to those with buckets by addresses, and to those with buckets
-- by tags.
use Rattle.std.specs.Prelude.{ℕ, suc, List, [], ◌∷◌, Some, None}
use Rattle.std.specs.declared.option.Option.{Option}
use Rattle.sq_base.specs.Addresses.{Address}
use Rattle.sq_base.specs.declared.helpers.Answer.{Answer}
use Rattle.sq_machine.specs.declared.entries.Event.{Event}
use Rattle.sq_machine.specs.declared.entries.Event.TheVariants.{Begin, Reconfigure, Seat, Grant, Leave}
use Rattle.sq_machine.specs.declared.entries.Told.{Told}
use Rattle.sq_machine.specs.declared.entries.Told.TheVariants as told
use Rattle.sq_machine.specs.declared.places.SeatPlace.{SeatPlace}
use Rattle.sq_machine.specs.declared.places.SeatPlace.TheVariants.{Nowhere, ByAddress, ByTag}
use Rattle.sq_rules.specs.Configurations.{Configuration}
use Rattle.sq_machine.specs.Checks.{Asked}
use Rattle.sq_machine.specs.Epochs.{config_of}
use Rattle.sq_machine.specs.Marks.{Past, entries}
use Rattle.sq_machine.specs.PoolReadings.{PoolEvent, PoolHistory, Begins, Sits, Passes, Grants, Leaves, Rests, beginning_of, tag_beginning_of, sat_in, tag_sat_in}
use Rattle.sq_machine.specs.Readings.{current}
use Rattle.sq_machine.specs.SeatPlaces.{seat_place}
use Rattle.sq_machine.specs.TakenRecords.{allowed_of, taken_answers}

-- the two kinds of pools
pub data PoolKind : Type 0 where
  Addressed : PoolKind
  Tagged : PoolKind

-- a generation of pools of a kind begins
abbrev pub begins_by : PoolKind → ℕ → Configuration → PoolEvent
begins_by Addressed e c = Begins e (beginning_of c)
begins_by Tagged e c = Begins e (tag_beginning_of c)

-- an epoch begins, where it has a configuration
abbrev pub begins_in : PoolKind → ℕ → Option Configuration → PoolEvent
begins_in kind e None = Begins e (record { initial = 0; pools = [] })
begins_in kind e (Some c) = begins_by kind e c

-- a client with this address is given a seat there
abbrev pub sits_at : PoolKind → ℕ → Configuration → Address → SeatPlace → PoolEvent
sits_at kind e c a Nowhere = Rests
sits_at Addressed e c a (ByAddress pool) = Sits (sat_in e c pool a) (beginning_of c)
sits_at Addressed e c a (ByTag pool tag) = Passes
sits_at Tagged e c a (ByAddress pool) = Passes
sits_at Tagged e c a (ByTag pool tag) = Sits (tag_sat_in e c pool tag) (tag_beginning_of c)

-- where the record of a check, which has these answers, is seated, over the configuration of its
-- epoch
abbrev pub record_place : List Answer → Asked → Option Configuration → SeatPlace
record_place answers a None = Nowhere
record_place answers a (Some c) = seat_place c a.sight answers

-- the pool event of a record that was taken under this configuration
abbrev pub sits_in : PoolKind → List Answer → Asked → Option Configuration → PoolEvent
sits_in kind answers a None = Rests
sits_in kind answers a (Some c) = sits_at kind a.epoch c a.sight.addr (seat_place c a.sight answers)

-- the pool event of a record that was taken, if there is one
abbrev pub sits_by : PoolKind → List Configuration → List Answer → Option Asked → PoolEvent
sits_by kind configs answers None = Rests
sits_by kind configs answers (Some a) = sits_in kind answers a (config_of configs a.epoch)

-- what an entry behind this past says to the pools of a kind
abbrev pub pool_event : PoolKind → List Configuration → Past → Event → Told → PoolEvent
pool_event kind configs m (Begin offset) answer = begins_in kind 1 (config_of configs 1)
pool_event kind configs m (Reconfigure text) answer =
    begins_in kind (suc (current (entries m))) (config_of configs (suc (current (entries m))))
pool_event kind configs m (Seat c) (told.Seat n pool) =
    sits_by kind configs (taken_answers configs m c) (allowed_of (entries m) c)
pool_event kind configs m (Grant n wanted) (told.Granted amount) = Grants n wanted amount
pool_event kind configs m (Leave n) answer = Leaves n
pool_event kind configs m event answer = Rests

-- what a past says to them, entry by entry
abbrev pub pool_history : PoolKind → List Configuration → Past → PoolHistory
pool_history kind configs [] = []
pool_history kind configs (x ∷ m) = record {
  moment = x.entry.moment;
  event = pool_event kind configs m x.entry.event x.entry.answer;
} ∷ pool_history kind configs m
