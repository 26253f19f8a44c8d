-- What the books of a desk's lock count.
use Rattle.std.specs.Prelude.{◌≡◌, ℕ, ◌+◌, [], ◌∷◌, Bool, true, false, Result, Ok, Err}
use Rattle.std.specs.Option.{ForSome}
use Rattle.std.specs.declared.option.Option.{Option}
use Rattle.sq_calls.specs.declared.faults.DeskFault.{DeskFault}
use Rattle.sq_calls.specs.declared.faults.DeskFault.TheVariants as fault
use Rattle.sq_channel.specs.declared.replies.Got.{Got}
use Rattle.sq_channel.specs.declared.replies.Got.TheVariants as got
use Rattle.sq_machine.specs.declared.entries.Event.{Event}
use Rattle.sq_machine.specs.declared.entries.Event.TheVariants.{Ask}
use Rattle.sq_machine.specs.Entries.{History}
use Rattle.sq_machine.specs.Readings.{current}

-- one more where it counts
abbrev pub counted : Bool → ℕ → ℕ
counted true n = n + 1
counted false n = n

abbrev pub is_ask : Event → Bool
is_ask (Ask conn method target fields) = true
is_ask e = false

-- how many requests arrived
abbrev pub asks_in : History → ℕ
asks_in [] = 0
asks_in (e ∷ h) = counted (is_ask e.event) (asks_in h)

-- where the journal is told: the book of requests counts its `ask` entries, and that of
-- reconfigurations the epochs behind the first
abbrev pub AreCounted : ℕ → ℕ → Option History → Type 0
AreCounted asks makes told = ForSome told (λ h. (asks ≡ asks_in h) × (makes + 1 ≡ current h))

-- the share has one refusal more where the call was refused or its note failed
abbrev pub SharesRefusal : {A : Type 0} → ℕ → ℕ → Result A DeskFault → Type 0
SharesRefusal before now (Ok a) = now ≡ before
SharesRefusal before now (Err fault.WantOfMemory) = now ≡ before
SharesRefusal before now (Err f) = now ≡ before + 1

-- the same of a line, where one that was bad or stray counts as a refusal
abbrev pub SharesLine : ℕ → ℕ → Result Got DeskFault → Type 0
SharesLine before now (Ok (got.Reply question reply)) = now ≡ before
SharesLine before now (Ok got.Bad) = now ≡ before + 1
SharesLine before now (Ok got.Stray) = now ≡ before + 1
SharesLine before now (Err fault.WantOfMemory) = now ≡ before
SharesLine before now (Err f) = now ≡ before + 1

-- the share has one request, or reconfiguration, more exactly where the call was made
abbrev pub SharesMade : {A : Type 0} → ℕ → ℕ → Result A DeskFault → Type 0
SharesMade before now (Ok a) = now ≡ before + 1
SharesMade before now (Err f) = now ≡ before
