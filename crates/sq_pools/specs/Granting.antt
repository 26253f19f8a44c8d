-- What delay pools of both kinds granted.
use Rattle.std.specs.Prelude.{ℕ, ◌+◌, min}
use Rattle.sq_pools.specs.Basins.{Basin, granted_limit}

-- the sum of what both granted; more than the limit is not counted
abbrev pub granted_together : Basin → Basin → ℕ
granted_together pools tags = min granted_limit (pools.granted + tags.granted)
