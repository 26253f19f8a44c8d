-- Counts of a rewriter behind its lock.
use Rattle.std.specs.Prelude.{◌+◌, ◌%◌, ◌^◌, ℕ}

-- a count that goes round at 2^64
abbrev pub one_more : ℕ → ℕ
one_more n = (n + 1) % 2 ^ 64
