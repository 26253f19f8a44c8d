-- The pools of a bank, and whose turn it is at them.
use Rattle.std.specs.Prelude.{ℕ, List}
use Rattle.sq_pools.specs.Basins.{Basin}
use Rattle.sq_pools.specs.declared.bank.Bank.{Bank}
use Rattle.sq_pools.specs.declared.turns.TurnPlace.{TurnPlace}

-- those with buckets by addresses
abbrev pub pools_of : {G : Type 0} → Bank G → Basin
pools_of b = b.pools

-- and those with buckets by tags
abbrev pub tags_of : {G : Type 0} → Bank G → Basin
tags_of b = b.tags

-- what is known of the turns of the seats of each
abbrev pub turns_of : {G : Type 0} → Bank G → List (ℕ × TurnPlace)
turns_of b = b.turns

abbrev pub tag_turns_of : {G : Type 0} → Bank G → List (ℕ × TurnPlace)
tag_turns_of b = b.tag_turns
