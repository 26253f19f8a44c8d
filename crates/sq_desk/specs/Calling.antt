-- How a desk begins, and what it counts.
use Rattle.std.specs.Prelude.{◌≡◌, ℕ, ℤ, ◌+◌, false, Result, Ok, Err}
use Rattle.std.specs.declared.option.Option.{Option}
use Rattle.sq_outside.specs.Causes.{Rose}
use Rattle.sq_machine.specs.declared.entries.Event.TheVariants as event
use Rattle.sq_machine.specs.declared.entries.Told.TheVariants as told
use Rattle.sq_rules.specs.Configurations.{Configuration}
use Rattle.sq_machine.specs.Entries.{History, entry_at}
use Rattle.sq_model.specs.Changes.{first_state}
use Rattle.sq_model.specs.States.{IsSame}
use Rattle.sq_engine.specs.EngineViews.{state_of}
use Rattle.sq_journal.specs.Noting.{with_entry}
use Rattle.sq_calls.specs.declared.faults.DeskFault.{DeskFault}
use Rattle.sq_calls.specs.declared.faults.DeskFault.TheVariants as fault
use Rattle.sq_notes.specs.Calling.{DeskView}

-- a reconfiguration that was made is one more, and its epoch is one above them
abbrev pub CountsMade : ℕ → Result ℕ DeskFault → ℕ → Type 0
CountsMade before (Ok epoch) now = (now ≡ before + 1) × (epoch ≡ now + 1)
CountsMade before (Err f) now = now ≡ before

-- the desk began with this configuration, and the journal has its first entry more than `before`
pub record HasBegun (config : Configuration) (offset : ℤ) (now : ℕ) (before : Option History)
    (v : DeskView) : Type 0 where
  pub same : IsSame (state_of v.engine) (first_state config offset now)
  pub history : v.notes.history
      ≡ with_entry (entry_at now (event.Begin offset) (told.Epoch 1)) before
  pub stopped : v.notes.stopped ≡ false
  pub refusals : v.notes.refusals ≡ 0
  pub made : v.notes.made ≡ 0

-- why no desk began: a note failed, or memory was wanting
abbrev pub IsUnbegun : DeskFault → ℕ → ℕ → Type 0
IsUnbegun fault.JournalFault before now = Rose before now
IsUnbegun fault.WantOfMemory before now = now ≡ before
IsUnbegun f before now = ⊥
