-- What a journal in memory tells, its room, and the calls of it that are to fail.
use Rattle.std.specs.Prelude.{ℕ, ◌-◌, List, reverse, Bool, ◌||◌, nat_lt, vec_len}
use Rattle.sq_outside.specs.Calls.{next_call, is_listed}
use Rattle.sq_machine.specs.Entries.{Noted, History}
use Rattle.sq_journal.specs.declared.mem_journal.MemJournal.{MemJournal}

-- the entries, the oldest first
abbrev pub mem_entries : MemJournal → List Noted
mem_entries j = j.entries.items

-- the entries, the newest first
abbrev pub mem_history : MemJournal → History
mem_history j = reverse (mem_entries j)

-- for how many more entries there is room
abbrev pub mem_room : MemJournal → ℕ
mem_room j = j.room - vec_len j.entries

-- for how many of these a place was made
abbrev pub mem_spare : MemJournal → ℕ
mem_spare j = j.spare

-- the numbers of the notes that are to fail, and how many notes were made
abbrev pub mem_fails : MemJournal → List ℕ
mem_fails j = j.notes.fails.items

abbrev pub mem_notes : MemJournal → ℕ
mem_notes j = j.notes.made

-- the next note fails: it is listed
abbrev pub mem_fails_next : MemJournal → Bool
mem_fails_next j = is_listed (mem_fails j) (next_call (mem_notes j))

-- the numbers of the reserves that are to want memory, and how many reserves were made
abbrev pub mem_wants : MemJournal → List ℕ
mem_wants j = j.reserves.fails.items

abbrev pub mem_reserves : MemJournal → ℕ
mem_reserves j = j.reserves.made

-- the next reserve, of so many places, wants memory: it is listed, or there is no room for them
abbrev pub mem_wants_next : MemJournal → ℕ → Bool
mem_wants_next j n = is_listed (mem_wants j) (next_call (mem_reserves j)) || nat_lt (mem_room j) n

abbrev pub mem_faults : MemJournal → ℕ
mem_faults j = j.notes.faults
