-- Links: where they came from, whether they were closed, and what a dialer and a listener tell of
-- them.
use Rattle.std.specs.Prelude.{◌≡◌, ◌⊎◌, ℕ, ◌+◌, List, [], ◌∷◌, ◌++◌, Bool, true, false, Some, IfSome}
use Rattle.std.specs.declared.option.Option.{Option}
use Rattle.sq_base.specs.Addresses.{Address}

-- what a source was dialled for, and all the bytes that it gives from its beginning
pub record Origin : Type 0 where
  pub host : List ℕ
  pub port : ℕ
  pub bytes : List ℕ

-- a dial that was given back: where it went and what the origin had to say, and what was written to
-- it
pub record Dial : Type 0 where
  pub origin : Origin
  pub written : List ℕ

-- how many dials were made, and those that were given back, the oldest first
pub record Dialled : Type 0 where
  pub made : ℕ
  pub back : List Dial

-- a link that will come: from where, and the bytes that it brings
pub record Coming : Type 0 where
  pub addr : Address
  pub port : ℕ
  pub bytes : List ℕ

-- a sink that tells whether it was closed was closed
abbrev pub IsClosed : Option Bool → Type 0
IsClosed told = IfSome told (λ b. b ≡ true)

-- a sink that tells whether it was closed was not
abbrev pub IsOpen : Option Bool → Type 0
IsOpen told = IfSome told (λ b. b ≡ false)

-- to a sink that tells nothing was written
abbrev pub IsEmpty : Option (List ℕ) → Type 0
IsEmpty told = IfSome told (λ bytes. bytes ≡ [])

-- where the dialer tells its calls, there was one more
abbrev pub CallsMore : Option ℕ → Option ℕ → Type 0
CallsMore old new = IfSome new (λ now. (before : ℕ) × (old ≡ Some before) × (now ≡ before + 1))

-- there was no call, or one
abbrev pub CallsOnce : Option ℕ → Option ℕ → Type 0
CallsOnce old new = (new ≡ old) ⊎ CallsMore old new

-- where the dialer tells, one dial more was made
abbrev pub DialsMore : Option Dialled → Option Dialled → Type 0
DialsMore old new = IfSome new
    (λ now. (before : Dialled) × (old ≡ Some before) × (now.made ≡ before.made + 1)
    × (now.back ≡ before.back))

-- the halves of a dial: where the dialer tells, the source tells this host and port and has all its
-- bytes left, and nothing was written
abbrev pub DialReaches : Option Dialled → List ℕ → ℕ → Option Origin → Option (List ℕ)
    → Option (List ℕ) → Type 0
DialReaches told host port origin left written =
    IfSome told (λ _. (bytes : List ℕ)
    × (origin ≡ Some (record { host = host; port = port; bytes = bytes })) × (left ≡ Some bytes)
    × (written ≡ Some []))

-- a dial was given back: where the halves tell, the list has one more
abbrev pub GivesDial : Option Dialled → Option Dialled → Option Origin → Option (List ℕ) → Type 0
GivesDial old new origin written =
    IfSome new (λ now. (before : Dialled) × (old ≡ Some before) × (now.made ≡ before.made)
    × IfSome origin (λ o. IfSome written
    (λ w. now.back ≡ before.back ++ record { origin = o; written = w } ∷ [])))

-- a link came: where the listener tells, it is the first of those that were to come, with all its
-- bytes left and nothing written
abbrev pub LinkComes : Option (List Coming) → Option (List Coming) → Address → ℕ → Option (List ℕ)
    → Option (List ℕ) → Type 0
LinkComes old new addr port left written =
    IfSome new (λ now. (bytes : List ℕ)
    × (old ≡ Some (record { addr = addr; port = port; bytes = bytes } ∷ now)) × (left ≡ Some bytes)
    × (written ≡ Some []))
