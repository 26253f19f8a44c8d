-- The hasher that a seed makes (SipHash-1-3).
use Rattle.std.specs.Prelude.{None, Some}
use Rattle.std.specs.declared.option.Option.{Option}
use Rattle.std.specs.Hash.DefaultHasher.{initial}
use Rattle.std.specs.RandomState.{initial_hasher}
use Rattle.std.specs.declared.hash.DefaultHasher.{DefaultHasher}
use Rattle.std.specs.declared.hash.RandomState.{RandomState}
use Rattle.sq_cache.specs.declared.seed.HashSeed.{HashSeed}

abbrev pub hasher_of : Option RandomState → DefaultHasher
hasher_of None = initial
hasher_of (Some state) = initial_hasher state

-- the hasher of a seed that was drawn has its keys, and else both are 0
abbrev pub first_hasher : HashSeed → DefaultHasher
first_hasher seed = hasher_of seed.drawn
