-- How the result of a call tells what the machine answers.
use Rattle.std.specs.Prelude.{◌≡◌, Result, Ok, Err}
use Rattle.sq_machine.specs.declared.entries.Told.{Told}
use Rattle.sq_machine.specs.declared.refusals.Refusal.{Refusal}
use Rattle.sq_machine.specs.declared.refusals.Refusal.TheVariants as refusal
use Rattle.sq_machine.specs.Next.{Next, gives, refuses}

-- a call answers what the machine gives, as it is told, or refuses as the machine does; where
-- memory is wanting, nothing is said
abbrev pub IsTold : {A : Type 0} → (A → Told) → Next → Result A Refusal → Type 0
IsTold told next (Ok a) = next ≡ gives (told a)
IsTold told next (Err refusal.WantOfMemory) = Unit {0}
IsTold told next (Err r) = next ≡ refuses r

-- the same of a call that takes no memory: it never answers that memory is wanting
abbrev pub IsAlwaysTold : {A : Type 0} → (A → Told) → Next → Result A Refusal → Type 0
IsAlwaysTold told next (Ok a) = next ≡ gives (told a)
IsAlwaysTold told next (Err r) = next ≡ refuses r
