-- What an open check has from its beginning on, and how many facts it looked at.
use Rattle.std.specs.Prelude.{◌≡◌, ℕ, ◌+◌, min, List, false, if◌then◌else◌, ◌==◌, Some}
use Rattle.std.specs.Option.{option_map}
use Rattle.std.specs.declared.option.Option.{Option}
use Rattle.sq_base.specs.Requests.{HttpRequest}
use Rattle.sq_rules.specs.Configurations.{Configuration}
use Rattle.sq_rules.specs.Verdicts.{pool_of}
use Rattle.sq_rules.specs.declared.sights.Sight.{Sight}
use Rattle.sq_checks.specs.Positions.{look_limit}
use Rattle.sq_checks.specs.OpenChecks.{CheckParts}
use Rattle.sq_checks.specs.Tables.{value_at}

-- the configuration of a check, what it sees, with the HTTP version of its request, of which no
-- history tells, its pool, and how many facts it looked at
pub record Begun : Type 0 where
  pub config : Configuration
  pub sight : Sight
  pub pool : Option ℕ
  pub looks : ℕ

abbrev pub begun_of : CheckParts → Begun
begun_of k = record { config = k.config; sight = k.sight; pool = k.pool; looks = k.looks }

-- what check n has so, where it is open
abbrev pub begun_at : List (ℕ × CheckParts) → ℕ → Option Begun
begun_at checks n = option_map begun_of (value_at checks n)

-- each check that is open still has what it had
abbrev pub AreKept : List (ℕ × CheckParts) → List (ℕ × CheckParts) → Type 0
AreKept old new = (n : ℕ) (b : Begun) → begun_at new n ≡ Some b → begun_at old n ≡ Some b

-- after so many looks more
abbrev pub looked_more : ℕ → Begun → Begun
looked_more k b = record b { looks = min look_limit (b.looks + k) }

-- the same, but that check m may have looked at more facts
abbrev pub AreKeptBut : ℕ → List (ℕ × CheckParts) → List (ℕ × CheckParts) → Type 0
AreKeptBut m old new = (n : ℕ) (b : Begun) → begun_at new n ≡ Some b
    → (a : Begun) × (k : ℕ) × (begun_at old n ≡ Some a)
    × (b ≡ (if m == n then looked_more k a else a))

-- check n began with this configuration and this very request, has the pool of these, and looked at
-- nothing; each other check has what it had
pub record HasBegun (n : ℕ) (config : Configuration) (request : HttpRequest)
    (old new : List (ℕ × CheckParts)) : Type 0 where
  pub sight : Sight
  pub request_is : sight.request ≡ request
  pub begun : begun_at new n
      ≡ Some
      (record { config = config; sight = sight; pool = pool_of config sight; looks = 0 })
  pub others : (m : ℕ) (b : Begun) → (m == n) ≡ false → begun_at new m ≡ Some b
      → begun_at old m ≡ Some b
