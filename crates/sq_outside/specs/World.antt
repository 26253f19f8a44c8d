-- What spawners, clocks and resolvers tell, and the causes of what listeners and resolvers answer.
use Rattle.std.specs.Prelude.{◌≡◌, ℕ, Bool, true, false, List, [], ◌∷◌, ◌++◌, ◌≤◌, Some, IfSome, IfOk, IsErrOf, OnOk, Result}
use Rattle.std.specs.declared.option.Option.{Option}
use Rattle.sq_base.specs.Addresses.{Address}
use Rattle.sq_outside.specs.Causes.{Rose}
use Rattle.sq_outside.specs.declared.links.Accepted.{Accepted}
use Rattle.sq_outside.specs.declared.links.Accepted.TheVariants.{Link, Stopped, Failed}
use Rattle.sq_outside.specs.declared.world.LookFault.{LookFault}
use Rattle.sq_outside.specs.declared.world.LookFault.TheVariants as fault

-- the answer is a link of which P holds, or no link
abbrev pub IfLink : {I O : Type 0} → Accepted I O → (I → O → Address → ℕ → Type 0) → Type 0
IfLink (Link from to addr port) P = P from to addr port
IfLink Stopped P = Unit {0}
IfLink Failed P = Unit {0}

-- no link came, and P holds
abbrev pub IfNoLink : {I O : Type 0} → Accepted I O → Type 0 → Type 0
IfNoLink (Link from to addr port) P = Unit {0}
IfNoLink Stopped P = P
IfNoLink Failed P = P

-- the listener stopped, and P holds
abbrev pub IfStopped : {I O : Type 0} → Accepted I O → Type 0 → Type 0
IfStopped (Link from to addr port) P = Unit {0}
IfStopped Stopped P = P
IfStopped Failed P = Unit {0}

-- whether the answer is a failure
abbrev pub has_failed : {I O : Type 0} → Accepted I O → Bool
has_failed (Link from to addr port) = false
has_failed Stopped = false
has_failed Failed = true

-- the count never falls; it rose where the listener answered `Failed`, and stayed where it answered
-- otherwise
pub record AcceptHasCause {I O : Type 0} (before now : ℕ) (result : Accepted I O) : Type 0 where
  pub later : before ≤ now
  pub failed : result ≡ Failed → Rose before now
  pub quiet : has_failed result ≡ false → now ≡ before

-- the count never falls; it rose where the resolver answered `Failed`, and stayed where it answered
-- otherwise
pub record LookHasCause {T : Type 0} (before now : ℕ) (result : Result T LookFault) : Type 0 where
  pub later : before ≤ now
  pub failed : IsErrOf result fault.Failed → Rose before now
  pub quiet : OnOk result (now ≡ before)
  pub memory : IsErrOf result fault.WantOfMemory → now ≡ before

-- the words of the starts that were made, the oldest first; None where the object does not tell
abbrev pub Starts : Type 0
Starts = Option (List (List (List ℕ)))

-- where the spawner tells, one start of these words more was made
abbrev pub StartsMore : Starts → Starts → List (List ℕ) → Type 0
StartsMore old new words = IfSome new
    (λ now. (before : List (List (List ℕ))) × (old ≡ Some before) × (now ≡ before ++ words ∷ []))

-- the moments that are left after one was given: the last one stays
abbrev pub moments_after : List ℕ → List ℕ
moments_after [] = []
moments_after (m ∷ []) = m ∷ []
moments_after (m ∷ n ∷ rest) = n ∷ rest

-- a clock that tells its moments gave the first of them
abbrev pub GivesMoment : Option (List ℕ) → Option (List ℕ) → ℕ → Type 0
GivesMoment old new moment =
    IfSome new (λ now. (rest : List ℕ) × (old ≡ Some (moment ∷ rest))
    × (now ≡ moments_after (moment ∷ rest)))

-- the addresses of each host; None where the object does not tell
abbrev pub Names : Type 0
Names = Option (List ℕ → List Address)

-- the addresses found are those of the host, where they are told
abbrev pub FindsAddrs : Names → List ℕ → Result (List Address) LookFault → Type 0
FindsAddrs names host result = IfOk result (λ found. IfSome names (λ of. found ≡ of host))
