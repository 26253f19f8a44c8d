-- Generations of buckets, one for an epoch.
use Rattle.std.specs.Prelude.{ℕ, List, [], Bool, not, ◌||◌, ◌==◌}
use Rattle.std.specs.Map.{lookup}
use Rattle.std.specs.Option.{option_map, option_map_or}
use Rattle.std.specs.declared.option.Option.{Option}
use Rattle.sq_machine.specs.BucketLevels.{Filled}
use Rattle.sq_machine.specs.PoolReadings.{BucketSpot, second_of}
use Rattle.sq_buckets.specs.Grants.{bucket_at}
use Rattle.sq_pools.specs.declared.generations.Generation.{Generation}

-- the generation of an epoch
abbrev pub generation_at : List (ℕ × Generation) → ℕ → Option Generation
generation_at generations e = lookup (λ k. e == k) generations

-- the moment at which it was made, where there is one
abbrev pub made_at : List (ℕ × Generation) → ℕ → Option ℕ
made_at generations e = option_map (λ g. g.made) (generation_at generations e)

-- how many seats of it are in use
abbrev pub held_at : List (ℕ × Generation) → ℕ → ℕ
held_at generations e = option_map_or (λ g. g.held) (generation_at generations e) 0

-- its buckets by name
abbrev pub buckets_at : List (ℕ × Generation) → ℕ → List (BucketSpot × Filled)
buckets_at generations e = option_map_or (λ g. g.buckets) (generation_at generations e) []

-- its bucket of a name
abbrev pub filled_at : List (ℕ × Generation) → ℕ → BucketSpot → Option Filled
filled_at generations e s = bucket_at (buckets_at generations e) s

-- the second of it that a moment lies in
abbrev pub second_at : List (ℕ × Generation) → ℕ → ℕ → ℕ
second_at generations e now = option_map_or (λ made. second_of made now) (made_at generations e) 0

-- what is left after the generation of one epoch went that is not the newest and has no seat in use
abbrev pub is_left : List (ℕ × Generation) → ℕ → ℕ → ℕ → Bool
is_left generations idle newest e = not (e == idle)
    || (e == newest || not (held_at generations e == 0))
