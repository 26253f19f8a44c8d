-- The journal of a desk, and what becomes of it.
use Rattle.std.specs.Prelude.{◌≡◌, ℕ, suc, ◌≤◌, Bool, true, false, Result, Ok, Err}
use Rattle.std.specs.declared.option.Option.{Option}
use Rattle.sq_outside.specs.Causes.{Rose, raised}
use Rattle.sq_machine.specs.Entries.{History, Noted}
use Rattle.sq_machine.specs.declared.refusals.Refusal.{Refusal}
use Rattle.sq_machine.specs.declared.refusals.Refusal.TheVariants as refusal
use Rattle.sq_journal.specs.Noting.{with_entry}
use Rattle.sq_calls.specs.declared.faults.DeskFault.{DeskFault}
use Rattle.sq_calls.specs.declared.faults.DeskFault.TheVariants as fault

-- a journal: its entries, the newest first, where it tells them, its spare places and its count of
-- faults; whether a note of the desk failed, how many calls were refused, and how many
-- reconfigurations were noted
pub record Notebook : Type 0 where
  pub history : Option History
  pub spare : ℕ
  pub faults : ℕ
  pub stopped : Bool
  pub refusals : ℕ
  pub made : ℕ

-- with one refusal more
abbrev pub counted : Notebook → Notebook
counted v = record v { refusals = raised v.refusals }

-- want of memory counts as no refusal
abbrev pub after_refusal : Refusal → Notebook → Notebook
after_refusal refusal.WantOfMemory v = v
after_refusal r v = counted v

-- the notebook is going, with so many places at least; or it had stopped, and the call is refused;
-- or memory is wanting
abbrev pub IsReady : ℕ → Notebook → Result (Unit {0}) DeskFault → Notebook → Type 0
IsReady n v (Ok done) w = (v.stopped ≡ false) × (n ≤ w.spare) × (v.spare ≤ w.spare)
    × (w ≡ record v { spare = w.spare })
IsReady n v (Err fault.Stopped) w = (v.stopped ≡ true) × (w ≡ counted v)
IsReady n v (Err fault.WantOfMemory) w = (v.stopped ≡ false) × (v.spare ≤ w.spare)
    × (w ≡ record v { spare = w.spare })
IsReady n v (Err f) w = ⊥

-- that a call was done, without what it gave
abbrev pub done_of : {A : Type 0} → Result A DeskFault → Result (Unit {0}) DeskFault
done_of (Ok a) = Ok tt
done_of (Err f) = Err f

-- the entry was noted in one of the places; or the note failed, and the notebook has stopped
abbrev pub IsNoted : Noted → Notebook → Result (Unit {0}) DeskFault → Notebook → Type 0
IsNoted e v (Ok done) w = (suc w.spare ≡ v.spare)
    × (w ≡ record v { history = with_entry e v.history; spare = w.spare })
IsNoted e v (Err fault.JournalFault) w = (suc w.spare ≡ v.spare) × Rose v.faults w.faults
    × (w ≡ record v {
      spare = w.spare;
      faults = w.faults;
      stopped = true;
      refusals = raised v.refusals;
    })
IsNoted e v (Err f) w = ⊥
