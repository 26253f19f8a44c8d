-- In the statement: docs/STATEMENT.md lists which definitions.
-- The text of a whole journal. Version 1 is the lines of its entries. Version 2 begins with the
-- line `journal 2`, and each entry's text stands after its number and its epoch.
use Rattle.std.specs.Prelude.{ℕ, ◌+◌, ◌-◌, ◌^◌, min, List, [], ◌∷◌, ◌++◌, length, codes, decimal}
use Rattle.sq_base.specs.Bytes.{lf}
use Rattle.sq_machine.specs.Entries.{Noted, History}
use Rattle.sq_machine.specs.Readings.{current}
use Rattle.sq_rules.specs.Steps.{WordList}
use Rattle.sq_journal.specs.EntryText.{entry_words}
use Rattle.sq_journal.specs.Lines.{line_of}

-- the words of a numbered entry
abbrev pub numbered_words : ℕ → ℕ → Noted → WordList
numbered_words number epoch e = decimal number ∷ decimal epoch ∷ entry_words e

-- the text of a numbered entry, without LF
abbrev pub numbered_text : ℕ → ℕ → Noted → List ℕ
numbered_text number epoch e = line_of (numbered_words number epoch e)

-- the line of a numbered entry
abbrev pub numbered_line : ℕ → ℕ → Noted → List ℕ
numbered_line number epoch e = numbered_text number epoch e ++ lf ∷ []

-- the first line of a journal of version 2
abbrev pub version_line : List ℕ
version_line = codes "journal 2" ++ lf ∷ []

-- a number of an entry, or of an epoch, stays at the greatest number
abbrev pub greatest_number : ℕ
greatest_number = 2 ^ 63 - 1

-- the next number
abbrev pub next_number : ℕ → ℕ
next_number n = min (n + 1) greatest_number

-- the number of the newest entry: its place, from 1
abbrev pub number_at : History → ℕ
number_at h = min (length h) greatest_number

-- the epoch of the newest entry: 1, and 1 more for each reconfiguration so far, itself included
abbrev pub epoch_at : History → ℕ
epoch_at h = min (current h) greatest_number

-- the numbered lines of a history, the oldest entry first
abbrev pub numbered_lines : History → List ℕ
numbered_lines [] = []
numbered_lines (e ∷ h) = numbered_lines h ++ numbered_line (number_at (e ∷ h)) (epoch_at (e ∷ h)) e

-- the text of a journal of version 2; nothing where it has no entry
abbrev pub journal_text : History → List ℕ
journal_text [] = []
journal_text (e ∷ h) = version_line ++ numbered_lines (e ∷ h)
