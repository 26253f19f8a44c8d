-- What the desk in memory tells, and how it answers.
use Rattle.std.specs.Prelude.{ℕ, List, if◌then◌else◌, Some, None}
use Rattle.std.specs.declared.option.Option.{Option}
use Rattle.sq_keeper.specs.declared.desk.Handed.{Handed}
use Rattle.sq_keeper.specs.declared.mem_desk.MemDesk.{MemDesk}

-- what it was handed, where all of that is kept
abbrev pub desk_handed : MemDesk → Option (List Handed)
desk_handed d = if d.whole then Some d.kept.items else None

abbrev pub desk_refused : MemDesk → ℕ
desk_refused d = d.calls.faults

-- how many more lines it wants
abbrev pub desk_wants : MemDesk → ℕ
desk_wants d = d.wants

-- how often `line` was called
abbrev pub desk_calls : MemDesk → ℕ
desk_calls d = d.calls.made

-- the numbers of the calls of `line` at which it has no memory
abbrev pub desk_lacks : MemDesk → List ℕ
desk_lacks d = d.calls.fails.items
