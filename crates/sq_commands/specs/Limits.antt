-- In the statement: docs/STATEMENT.md lists which definitions.
-- How many workers a server has at most.
use Rattle.std.specs.Prelude.{ℕ}

-- the most workers that a server has
abbrev pub most_workers : ℕ
most_workers = 4096
