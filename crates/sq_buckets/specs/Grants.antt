-- What a seat is granted: the least of what it wants and of the levels of its buckets, taken from
-- each (configuration reference, `delay_parameters`).
use Rattle.std.specs.Prelude.{ℕ, List, [], ◌∷◌, Bool, true, false, not, ◌&&◌, ◌==◌, min, Some, None, is_some}
use Rattle.std.specs.List.{list_all}
use Rattle.std.specs.Map.{lookup, remove_entry}
use Rattle.std.specs.Option.{option_map_or}
use Rattle.std.specs.declared.option.Option.{Option}
use Rattle.sq_machine.specs.BucketLevels.{Filled, drawn_from, filled_to, opened_at}
use Rattle.sq_machine.specs.PoolReadings.{BucketSpot, has_spot, is_spot, spots_of}
use Rattle.sq_rules.specs.declared.pools.Pool.{Pool}

-- the level of a bucket in this second
abbrev pub level_in : ℕ → Filled → ℕ
level_in second f = (filled_to second f).tally.level

-- the bucket of a name
abbrev pub bucket_at : List (BucketSpot × Filled) → BucketSpot → Option Filled
bucket_at buckets s = lookup (λ k. is_spot s k) buckets

-- the buckets without that of a name
abbrev pub without_bucket : BucketSpot → List (BucketSpot × Filled) → List (BucketSpot × Filled)
without_bucket s buckets = remove_entry (λ k. is_spot s k) buckets

-- the level of a bucket in this second; 0 where there is none
abbrev pub level_or_none : ℕ → Option Filled → ℕ
level_or_none second f = option_map_or (level_in second) f 0

-- the least of a number and of the levels of the buckets of these names
abbrev pub least_at : ℕ → List (BucketSpot × Filled) → List BucketSpot → ℕ → ℕ
least_at second buckets [] wanted = wanted
least_at second buckets (s ∷ spots) wanted = least_at second buckets spots
    (min wanted (level_or_none second (bucket_at buckets s)))

-- each of these names has a bucket
abbrev pub are_there : List (BucketSpot × Filled) → List BucketSpot → Bool
are_there buckets spots = list_all (λ s. is_some (bucket_at buckets s)) spots

-- no name stands twice
abbrev pub are_own : List BucketSpot → Bool
are_own [] = true
are_own (s ∷ spots) = not (has_spot spots s) && are_own spots

-- a bucket that grants so much in this second
abbrev pub grants : ℕ → ℕ → Filled → Filled
grants second amount f = drawn_from amount (filled_to second f)

-- a bucket that grants, or another one
abbrev pub granted_if : Bool → ℕ → ℕ → Filled → Filled
granted_if true second amount f = grants second amount f
granted_if false second amount f = f

-- a bucket of this name that opens in this second, at this percentage of its limit
abbrev pub opened_in : ℕ → ℕ → BucketSpot → Filled
opened_in initial second s = record {
  limit = s.limit;
  second = second;
  tally = opened_at initial s.limit;
}

-- a bucket that opens where the test holds and there is none
abbrev pub filled_if : Bool → Filled → Option Filled → Option Filled
filled_if b new (Some f) = Some f
filled_if true new None = Some new
filled_if false new None = None

-- the bucket of a name is the aggregate one of the pool at this place
abbrev pub is_aggregate_of : ℕ → Pool → BucketSpot → Bool
is_aggregate_of place p s = has_spot (spots_of place p (record { v6 = false; number = 0 })) s
    && s.place == 0
