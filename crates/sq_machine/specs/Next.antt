-- In the statement: docs/STATEMENT.md lists which definitions.
-- What the machine may answer to an event.
use Rattle.std.specs.Prelude.{ℕ, Bool, true, false, Some, None}
use Rattle.std.specs.declared.option.Option.{Option}
use Rattle.sq_machine.specs.declared.entries.Told.{Told}
use Rattle.sq_machine.specs.declared.refusals.Refusal.{Refusal}
use Rattle.sq_machine.specs.declared.refusals.Refusal.TheVariants as refusal

-- an answer, a refusal, or nothing: for an event that may only stand first, an act where none is
-- due, and an event that names what is not there
pub data Next : Type 0 where
  gives : Told → Next
  refuses : Refusal → Next
  nothing : Next

-- the refusal where the test holds, and else the rest
abbrev pub refuse_if : Bool → Refusal → Next → Next
refuse_if true r rest = refuses r
refuse_if false r rest = rest

-- the refusal of an `ask` whose connection has an open check
abbrev pub refuse_open : Option ℕ → Next → Next
refuse_open None rest = rest
refuse_open (Some n) rest = refuses (refusal.CheckOpen n)
