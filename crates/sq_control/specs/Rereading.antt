-- In the statement: docs/STATEMENT.md lists which definitions.
-- What becomes of a reconfiguration.
use Rattle.std.specs.Prelude.{◌≡◌, ◌⊎◌, ℕ, ◌+◌, List, ◌∷◌, Bool, true, false, Some, None, IfSome, Result, Ok, Err}
use Rattle.std.specs.declared.option.Option.{Option}
use Rattle.sq_outside.specs.Told.{Texts, Openings, AddsText}
use Rattle.sq_calls.specs.declared.faults.DeskFault.{DeskFault}
use Rattle.sq_calls.specs.declared.faults.DeskFault.TheVariants as fault
use Rattle.sq_rules.specs.ConfText.{conf_gives, conf_refuses}
use Rattle.sq_rules.specs.Configurations.{Configuration}
use Rattle.sq_machine.specs.Entries.{History, entry_at}
use Rattle.sq_machine.specs.declared.entries.Event.TheVariants as event
use Rattle.sq_machine.specs.declared.entries.Told.TheVariants as answer
use Rattle.sq_rules.specs.declared.kinds.ConfError.{ConfError}
use Rattle.sq_machine.specs.declared.refusals.Refusal.TheVariants as refusal
use Rattle.sq_control.specs.declared.control.Reread.{Reread}
use Rattle.sq_control.specs.declared.control.Reread.TheVariants as reread

-- what the desk's answer comes to
abbrev pub answers : Result ℕ DeskFault → Reread
answers (Ok epoch) = reread.Made epoch
answers (Err (fault.Engine (refusal.TooManyEpochs limit))) = reread.Epochs
answers (Err (fault.Engine r)) = reread.Spent
answers (Err fault.WantOfMemory) = reread.WantOfMemory
answers (Err f) = reread.Journal

-- the desk refused it, or its note failed or would have come after one
abbrev pub is_refusal : Reread → Bool
is_refusal reread.Epochs = true
is_refusal reread.Spent = true
is_refusal reread.Journal = true
is_refusal r = false

-- the desk's answer alone comes to it
abbrev pub is_answer : Reread → Bool
is_answer (reread.Made epoch) = true
is_answer reread.Epochs = true
is_answer reread.Spent = true
is_answer reread.Journal = true
is_answer r = false

-- P holds of the whole text of the file of this name, where the files tell texts, and of that of
-- the opening that was added, where they tell openings
pub record OfFile (texts : Texts) (before now : Openings) (name : List ℕ)
    (P : List ℕ → Type 0) : Type 0 where
  pub file : IfSome texts (λ text. (bytes : List ℕ) × (text name ≡ Some bytes) × P bytes)
  pub opening : AddsText before now name P

-- the text is refused, for this fault
abbrev pub IsRefused : Texts → Openings → Openings → List ℕ → ConfError → Type 0
IsRefused texts before now name e = OfFile texts before now name
    (λ bytes. conf_refuses bytes e.line e.kind)

-- the text states this configuration, and is its source
abbrev pub States : Configuration → List ℕ → Type 0
States config bytes = conf_gives bytes config × (config.source ≡ bytes)

-- the desk was asked to go on with the configuration that the text of the file states, R holds of
-- that and of what it gave, and this is answered
abbrev pub IsAnswered : Texts → Openings → Openings → List ℕ
    → (Configuration → Result ℕ DeskFault → Type 0) → Reread → Type 0
IsAnswered texts before now name R r =
    (config : Configuration) × (gave : Result ℕ DeskFault)
    × OfFile texts before now name (States config) × R config gave × (r ≡ answers gave)

-- either the desk was asked, and what it gave is answered; or it is as it was, and the answer is
-- none of its
abbrev pub Asks : {K : Type 0} → Texts → Openings → Openings → List ℕ
    → (Configuration → Result ℕ DeskFault → Type 0) → K → K → Reread → Type 0
Asks texts before now name R old new r = IsAnswered texts before now name R r
    ⊎ ((new ≡ old) × (is_answer r ≡ false))

-- where the journal is told, a reconfiguration with this configuration was entered, with this epoch
abbrev pub AddsReread : Configuration → ℕ → Option History → Option History → Type 0
AddsReread config epoch None new = new ≡ None
AddsReread config epoch (Some h) new = (moment : ℕ)
    × (new ≡ Some (entry_at moment (event.Reconfigure config.source) (answer.Epoch epoch) ∷ h))

-- one entry was added exactly where the reconfiguration was made: that of the configuration that
-- the text of the file states
abbrev pub Adds : Texts → Openings → Openings → List ℕ → Option History → Option History → Reread
    → Type 0
Adds texts before now name old new (reread.Made epoch) =
    (config : Configuration) × OfFile texts before now name (States config)
    × AddsReread config epoch old new
Adds texts before now name old new r = new ≡ old

-- a reconfiguration that was made is counted, and its epoch is one above the count; else the count
-- stays
abbrev pub CountsMade : Option ℕ → Option ℕ → Reread → Type 0
CountsMade old new (reread.Made epoch) = IfSome old
    (λ m. (new ≡ Some (m + 1)) × (epoch ≡ m + 1 + 1))
CountsMade old new r = new ≡ old
