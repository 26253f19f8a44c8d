-- How many connections of each address are open, as they are counted.
use Rattle.std.specs.Prelude.{◌≡◌, ℕ, Some, ◌-◌, ◌==◌, suc, List, if◌then◌else◌, unwrap_or}
use Rattle.sq_base.specs.Addresses.{Address}
use Rattle.sq_checks.specs.Tables.{value_at}

-- the counts of both kinds of addresses, by their numbers
pub record Tallies : Type 0 where
  pub v4 : List (ℕ × ℕ)
  pub v6 : List (ℕ × ℕ)

-- no number has a row without a count
abbrev pub HasNoZeros : List (ℕ × ℕ) → Type 0
HasNoZeros rows = (k : ℕ) → value_at rows k ≡ Some 0 → ⊥

-- the count of an address, which is 0 where none is kept
abbrev pub tally : Tallies → Address → ℕ
tally t a = unwrap_or (value_at (if a.v6 then t.v6 else t.v4) a.number) 0

-- one more of a number, and the others as they were
abbrev pub Raises : List (ℕ × ℕ) → List (ℕ × ℕ) → ℕ → Type 0
Raises old new n = (k : ℕ)
    → unwrap_or (value_at new k) 0
    ≡ (if n == k then suc (unwrap_or (value_at old k) 0) else unwrap_or (value_at old k) 0)

-- one less of a number, and the others as they were
abbrev pub Lowers : List (ℕ × ℕ) → List (ℕ × ℕ) → ℕ → Type 0
Lowers old new n = (k : ℕ)
    → unwrap_or (value_at new k) 0
    ≡ (if n == k then unwrap_or (value_at old k) 0 - 1 else unwrap_or (value_at old k) 0)
