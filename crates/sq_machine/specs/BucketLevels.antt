-- In the statement: docs/STATEMENT.md lists which definitions.
-- The numbers of a delay pool's bucket, second by second (configuration reference,
-- `delay_parameters` and `delay_initial_bucket_level`).
use Rattle.std.specs.Prelude.{◌≡◌, ℕ, ◌+◌, ◌-◌, ◌*◌, ◌/◌, ◌≤◌, ◌<◌, ◌^◌, min, max, suc, zero}
use Rattle.sq_rules.specs.Rates.{Limit}

-- a bucket: what it holds, and what it was opened at, gained, lost over its brim, and granted so
-- far
pub record Tally : Type 0 where
  pub level : ℕ
  pub opened : ℕ
  pub restored : ℕ
  pub spilled : ℕ
  pub granted : ℕ

-- what came in is what it holds, what it granted, and what it lost
abbrev pub IsBalanced : Tally → Type 0
IsBalanced b = b.opened + b.restored ≡ b.level + b.granted + b.spilled

-- the level at which a bucket opens, at this percentage
abbrev pub opening : ℕ → Limit → ℕ
opening initial r = r.max * initial / 100

-- a bucket as it opens
abbrev pub opened_at : ℕ → Limit → Tally
opened_at initial r = record {
  level = opening initial r;
  opened = opening initial r;
  restored = 0;
  spilled = 0;
  granted = 0;
}

-- after one second more
abbrev pub a_second : Limit → Tally → Tally
a_second r b = record {
  level = min r.max (b.level + r.restore);
  opened = b.opened;
  restored = b.restored + r.restore;
  spilled = b.spilled + (b.level + r.restore - r.max);
  granted = b.granted;
}

-- after so many seconds more, one after the other
abbrev pub seconds : Limit → ℕ → Tally → Tally
seconds r zero b = b
seconds r (suc n) b = a_second r (seconds r n b)

-- after so much was taken
abbrev pub drawn : ℕ → Tally → Tally
drawn amount b = record {
  level = b.level - amount;
  opened = b.opened;
  restored = b.restored;
  spilled = b.spilled;
  granted = b.granted + amount;
}

-- a bucket that is reckoned up to this second of its generation
pub record Filled : Type 0 where
  pub limit : Limit
  pub second : ℕ
  pub tally : Tally

-- the same bucket, reckoned up to a second, where that is later
abbrev pub filled_to : ℕ → Filled → Filled
filled_to second f = record {
  limit = f.limit;
  second = max second f.second;
  tally = seconds f.limit (second - f.second) f.tally;
}

-- the same bucket after so much was taken
abbrev pub drawn_from : ℕ → Filled → Filled
drawn_from amount f = record { limit = f.limit; second = f.second; tally = drawn amount f.tally }

-- what holds of a bucket: its level is within its limit, and it gained no more than its seconds
-- gave
pub record IsFilled (f : Filled) : Type 0 where
  pub within : f.tally.level ≤ f.limit.max
  pub opened_is : f.tally.opened ≤ f.limit.max
  pub gained : f.tally.restored ≤ f.limit.restore * f.second
  pub second_is : f.second < 2 ^ 63
