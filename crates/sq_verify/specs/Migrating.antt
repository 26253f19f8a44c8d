-- In the statement: docs/STATEMENT.md lists which definitions.
-- A journal of version 1, read line by line, as one of version 2.
use Rattle.std.specs.Prelude.{◌≡◌, ◌⊎◌, ℕ, ◌+◌, List, [], ◌∷◌, ◌++◌, length, Bool, true, false, not, ◌==◌, if◌then◌else◌, Result, Ok, Err, Some, None, IsErrOf, ◌≤◌}
use Rattle.std.specs.declared.option.Option.{Option}
use Rattle.sq_outside.specs.Causes.{Rose}
use Rattle.sq_outside.specs.SourceLines.{SourceLine, is_readable, lines}
use Rattle.sq_machine.specs.declared.entries.Event.{Event}
use Rattle.sq_machine.specs.Entries.{Noted, History}
use Rattle.sq_machine.specs.Events.{is_begin}
use Rattle.sq_journal.specs.Journals.{epoch_at, journal_text, version_line}
use Rattle.sq_journal.specs.Lines.{spaced_words}
use Rattle.sq_journal.specs.ToldReading.{entry_of}
use Rattle.sq_journal.specs.Sinks.{epoch_behind, line_after}
use Rattle.sq_replay.specs.Runs.{Wrote, WroteFront, WroteLines, WrotePart}
use Rattle.sq_replay.specs.declared.page.Unwritten.{Unwritten}
use Rattle.sq_replay.specs.declared.page.Unwritten.TheVariants as untold
use Rattle.sq_verify.specs.declared.migrating.MigrateFault.{MigrateFault}
use Rattle.sq_verify.specs.declared.migrating.MigrateFault.TheVariants as fault

-- the first entry is `begin`, and no other is
abbrev pub is_in_place : Bool → Event → Bool
is_in_place is_first event = if is_first then is_begin event else not (is_begin event)

-- the entry, if it stands at its place: `begin` first, and nowhere else
abbrev pub placed : Bool → Option Noted → Option Noted
placed is_first None = None
placed is_first (Some e) = if is_in_place is_first e.event then Some e else None

-- the entry of a line, behind this history and so many bytes: the line can be read, and is the text
-- of an entry in its place
abbrev pub line_entry : History → ℕ → SourceLine → Option Noted
line_entry h place l = if is_readable place l then placed (length h == 0)
    (entry_of (spaced_words l.bytes)) else None

-- the entries before the first line that is none, and whether there is no such line
pub record Reading : Type 0 where
  pub history : History
  pub whole : Bool

-- with the next line's entry, or without one
abbrev pub with_next : History → Option Noted → (History → Reading) → Reading
with_next h None go = record { history = h; whole = false }
with_next h (Some e) go = go (e ∷ h)

-- the lines are at their end; where there is no entry, one is missing
abbrev pub at_end : History → Reading
at_end [] = record { history = []; whole = false }
at_end (e ∷ h) = record { history = e ∷ h; whole = true }

-- these lines, behind this history and so many bytes
abbrev pub read_lines : History → ℕ → List SourceLine → Reading
read_lines h place [] = at_end h
read_lines h place (l ∷ ls) = with_next h (line_entry h place l)
    (λ t. read_lines t (place + length l.bytes + 1) ls)

-- the lines of a whole journal
abbrev pub read_journal : List SourceLine → Reading
read_journal ls = read_lines [] 0 ls

-- behind the version line, where it is the first
abbrev pub first_behind : Bool → List ℕ → List ℕ
first_behind is_first line = if is_first then version_line ++ line else line

-- What a page holds, and what was written, have this much more of a text; or a front of it, where
-- memory ran out; or a part of the text was written, and not all, where a write failed.
abbrev pub PutsText : Option (List ℕ) → Option (List ℕ) → List ℕ → List ℕ
    → Result (Unit {0}) Unwritten → List ℕ → Type 0
PutsText old new page now (Ok u) more = (base : Option (List ℕ)) (text : List ℕ)
    → Wrote base old page text → Wrote base new now (text ++ more)
PutsText old new page now (Err untold.Failed) more = (base : Option (List ℕ)) (text : List ℕ)
    → Wrote base old page text → WrotePart base new (text ++ more)
PutsText old new page now (Err untold.WantOfMemory) more = (base : Option (List ℕ)) (text : List ℕ)
    → Wrote base old page text → WroteFront base new now (text ++ more)

-- The text of version 2 was written, but for what the page holds, and each line is an entry; or up
-- to the first line that is none, whose number is told; or a fault came before.
abbrev pub Migrates : Option (List ℕ) → Option (List ℕ) → List ℕ → Reading
    → Result (Unit {0}) MigrateFault → Type 0
Migrates base contents page read (Ok u) = (read.whole ≡ true)
    × Wrote base contents page (journal_text read.history)
Migrates base contents page read (Err (fault.Script line)) =
    (read.whole ≡ false) × (line ≡ length read.history + 1)
    × Wrote base contents page (journal_text read.history)
Migrates base contents page read (Err fault.ReadFault) = WroteLines base contents page
    (journal_text read.history)
Migrates base contents page read (Err fault.WriteFault) = WrotePart base contents
    (journal_text read.history)
Migrates base contents page read (Err fault.WantOfMemory) =
    WroteFront base contents page (journal_text read.history)

-- the counts of source and sink never fall; the one of the object whose call failed rose, and each
-- stayed where none of its calls did
pub record MigrateHasCauses (before now out_before out_now : ℕ)
    (result : Result (Unit {0}) MigrateFault) : Type 0 where
  pub later : before ≤ now
  pub out_later : out_before ≤ out_now
  pub read : IsErrOf result fault.ReadFault → Rose before now
  pub write : IsErrOf result fault.WriteFault → Rose out_before out_now
  pub quiet : (IsErrOf result fault.ReadFault → ⊥) → now ≡ before
  pub out_quiet : (IsErrOf result fault.WriteFault → ⊥) → out_now ≡ out_before

-- These entries were read and written, but for what the page holds, the bytes that are left follow
-- them, and with what these give they are the whole reading.
pub record ReadSoFar (base left now : Option (List ℕ)) (page : List ℕ) (count epoch place : ℕ)
    (read : Reading) : Type 0 where
  pub history : History
  pub bytes : List ℕ
  pub left_is : left ≡ Some bytes
  pub count_is : count ≡ length history
  pub epoch_is : epoch ≡ epoch_at history
  pub wrote : Wrote base now page (journal_text history)
  pub same : read_lines history place (lines bytes) ≡ read

-- the line of an entry behind this many, of which the last has this epoch, is on the page or was
-- written, and the epoch is its own; or memory ran out before or in the midst of its text; or a
-- write failed
abbrev pub PutsEntry : Option (List ℕ) → Option (List ℕ) → List ℕ → List ℕ → ℕ → ℕ → Noted
    → Result ℕ MigrateFault → Type 0
PutsEntry old new page now count epoch e (Ok next) =
    (next ≡ epoch_behind epoch e.event)
    × PutsText old new page now (Ok tt)
    (line_after (count == 0) (count + 1) (epoch_behind epoch e.event) e)
PutsEntry old new page now count epoch e (Err (fault.Script number)) = ⊥
PutsEntry old new page now count epoch e (Err fault.ReadFault) = ⊥
PutsEntry old new page now count epoch e (Err fault.WriteFault) =
    PutsText old new page now (Err untold.Failed)
    (line_after (count == 0) (count + 1) (epoch_behind epoch e.event) e)
PutsEntry old new page now count epoch e (Err fault.WantOfMemory) =
    ((new ≡ old) × (now ≡ page))
    ⊎ PutsText old new page now (Err untold.WantOfMemory)
    (line_after (count == 0) (count + 1) (epoch_behind epoch e.event) e)

-- a line states an entry in its place, and its text came to this; or it states none, and nothing
-- changed; or there was no memory to read it
abbrev pub MigratesLine : Option (List ℕ) → Option (List ℕ) → List ℕ → List ℕ → ℕ → ℕ → List ℕ
    → Result ℕ MigrateFault → Type 0
MigratesLine old new page now count epoch line (Err (fault.Script number)) =
    (placed (count == 0) (entry_of (spaced_words line)) ≡ None) × (number ≡ count + 1) × (new ≡ old)
    × (now ≡ page)
MigratesLine old new page now count epoch line (Err fault.WantOfMemory) =
    ((new ≡ old) × (now ≡ page))
    ⊎ ((e : Noted) × (placed (count == 0) (entry_of (spaced_words line)) ≡ Some e)
    × PutsEntry old new page now count epoch e (Err fault.WantOfMemory))
MigratesLine old new page now count epoch line r =
    (e : Noted) × (placed (count == 0) (entry_of (spaced_words line)) ≡ Some e)
    × PutsEntry old new page now count epoch e r
