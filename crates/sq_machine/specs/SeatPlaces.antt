-- In the statement: docs/STATEMENT.md lists which definitions.
-- Where a record is seated (configuration reference, `delay_class`).
use Rattle.std.specs.Prelude.{ℕ, List, Bool, false, ◌==◌, if◌then◌else◌, Some, None, slice_get}
use Rattle.std.specs.Option.{option_map_or}
use Rattle.std.specs.declared.option.Option.{Option}
use Rattle.sq_base.specs.declared.helpers.Answer.{Answer}
use Rattle.sq_rules.specs.declared.pools.Pool.{Pool}
use Rattle.sq_rules.specs.declared.sights.Sight.{Sight}
use Rattle.sq_rules.specs.Configurations.{Configuration}
use Rattle.sq_rules.specs.Verdicts.{pool_of}
use Rattle.sq_rules.specs.Tags.{tag_of}
use Rattle.sq_machine.specs.declared.places.SeatPlace.{SeatPlace}
use Rattle.sq_machine.specs.declared.places.SeatPlace.TheVariants.{Nowhere, ByAddress, ByTag}

-- the buckets of a pool of class 5 are by tags
abbrev pub has_tags : List Pool → ℕ → Bool
has_tags pools pool = option_map_or (λ p. p.class == 5) (slice_get pools pool) false

-- the place of a record in a pool of tags, if it has a tag
abbrev pub place_by_tag : ℕ → Option (List ℕ) → SeatPlace
place_by_tag pool None = Nowhere
place_by_tag pool (Some tag) = ByTag pool tag

-- the place of a record in the pool that takes it
abbrev pub place_in : List Pool → Option (List ℕ) → Option ℕ → SeatPlace
place_in pools tag None = Nowhere
place_in pools tag (Some pool) = if has_tags pools pool then place_by_tag pool tag
    else ByAddress pool

-- a record is seated in its pool, where it has one; in one with buckets by tags only with a tag
abbrev pub seat_place : Configuration → Sight → List Answer → SeatPlace
seat_place c s answers = place_in c.pools (tag_of c s answers) (pool_of c s)

-- its pool there
abbrev pub pool_at : SeatPlace → Option ℕ
pool_at Nowhere = None
pool_at (ByAddress pool) = Some pool
pool_at (ByTag pool tag) = Some pool
