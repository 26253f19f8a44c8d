-- What tells one ledger from another.
use Rattle.std.specs.Prelude.{ℕ}

-- its name, and into how many parts its shares are cut
pub record LedgerKey : Type 0 where
  pub name : ℕ
  pub parts : ℕ
