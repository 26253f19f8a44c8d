-- In the statement: docs/STATEMENT.md lists which definitions.
-- A bucket at two moments of its life.
use Rattle.std.specs.Prelude.{◌≡◌, ℕ, ◌+◌, ◌*◌, ◌≤◌, List, [], ◌∷◌, ◌++◌, is_some, true, Some, ⊤}
use Rattle.sq_rules.specs.Rates.{Limit}
use Rattle.sq_machine.specs.BucketLevels.{Tally}
use Rattle.sq_machine.specs.PoolReadings.{BucketSpot, PoolEntry, PoolHistory, is_grant, latest_in, made_of, seconds_between, tally_of}

-- so many seconds lie between the one and the other: what it holds, granted and lost has grown by
-- what they restored
pub record Flows (limit : Limit) (seconds : ℕ) (before after : Tally) : Type 0 where
  pub gains : after.level + after.granted + after.spilled
      ≡ before.level + before.granted + before.spilled + limit.restore * seconds
  pub spills : before.spilled ≤ after.spilled
  pub opens : after.opened ≡ before.opened
  pub restores : after.restored ≡ before.restored + limit.restore * seconds

-- moments never fall, and each grant is what its seat has: both are parts of what a legal history
-- is
abbrev pub AreGrants : PoolHistory → Type 0
AreGrants [] = ⊤
AreGrants (x ∷ history) = AreGrants history × (latest_in history ≤ x.moment)
    × is_grant x history x.event

-- the bucket is open at each place from a history to the one with these entries added
abbrev pub Lives : List PoolEntry → PoolHistory → ℕ → BucketSpot → Type 0
Lives [] history epoch spot = is_some (tally_of history epoch spot) ≡ true
Lives (x ∷ later) history epoch spot = Lives later history epoch spot
    × (is_some (tally_of (x ∷ later ++ history) epoch spot) ≡ true)

-- what a bucket granted between two places is at most its level at the first and what the seconds
-- between them restored
abbrev pub GrantsWithin : List PoolEntry → PoolHistory → ℕ → BucketSpot → Type 0
GrantsWithin later history epoch spot =
    (a b : Tally) → tally_of history epoch spot ≡ Some a
    → tally_of (later ++ history) epoch spot ≡ Some b
    → b.granted ≤ a.granted +
    (a.level + spot.limit.restore
    * seconds_between (made_of history epoch) (latest_in history) (latest_in (later ++ history)))
