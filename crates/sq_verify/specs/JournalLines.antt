-- In the statement: docs/STATEMENT.md lists which definitions.
-- The lines of a journal of either version. In version 2 the entry's number and its epoch stand
-- before the entry's text.
use Rattle.std.specs.Prelude.{ℕ, ◌+◌, List, ◌∷◌, Bool, ◌&&◌, bytes_eq, codes, option_map}
use Rattle.std.specs.declared.option.Option.{Option}
use Rattle.sq_outside.specs.SourceLines.{SourceLine, script_line_limit}
use Rattle.sq_machine.specs.Entries.{History, Noted}
use Rattle.sq_journal.specs.EntryText.{entry_text}
use Rattle.sq_journal.specs.Journals.{epoch_at, number_at, numbered_text}
use Rattle.sq_journal.specs.Lines.{spaced_words}
use Rattle.sq_journal.specs.ToldReading.{entry_of, numbered_of}
use Rattle.sq_verify.specs.declared.versions.Version.{Version}
use Rattle.sq_verify.specs.declared.versions.Version.TheVariants.{One, Two}

-- a line has so many bytes at most, without its LF: in version 2 a number and an epoch of 19
-- digits, each with a space, may stand before a line of version 1
abbrev pub line_limit : Version → ℕ
line_limit One = script_line_limit
line_limit Two = script_line_limit + 40

-- the entry of a number, an epoch and an entry
abbrev pub entry_in : ℕ × ℕ × Noted → Noted
entry_in y = y.2

-- the entry that a line states
abbrev pub noted_in : Version → List ℕ → Option Noted
noted_in One line = entry_of (spaced_words line)
noted_in Two line = option_map entry_in (numbered_of (spaced_words line))

-- the text of an entry with this number and this epoch
abbrev pub text_in : Version → ℕ → ℕ → Noted → List ℕ
text_in One number epoch e = entry_text e
text_in Two number epoch e = numbered_text number epoch e

-- the line of an entry behind this history, without LF
abbrev pub line_in : Version → History → Noted → List ℕ
line_in v h e = text_in v (number_at (e ∷ h)) (epoch_at (e ∷ h)) e

-- the line tells version 2
abbrev pub is_version_line : SourceLine → Bool
is_version_line l = l.ended && bytes_eq l.bytes (codes "journal 2")
