-- In the statement: docs/STATEMENT.md lists which definitions.
-- The limits of a delay pool's buckets (configuration reference, `delay_parameters`).
use Rattle.std.specs.Prelude.{ℕ, ◌≤◌}
use Rattle.sq_rules.specs.Limits.{delay_limit}

-- what a bucket gains in a second, and what it holds at the most, in bytes
pub record Limit : Type 0 where
  pub restore : ℕ
  pub max : ℕ

-- both numbers lie within the limit
pub record IsLimit (r : Limit) : Type 0 where
  pub restore_is : r.restore ≤ delay_limit
  pub max_is : r.max ≤ delay_limit
