-- What processes in memory say.
use Rattle.std.specs.Prelude.{ℕ, List, Bool, if◌then◌else◌, is_some, Some, None}
use Rattle.std.specs.declared.option.Option.{Option}
use Rattle.sq_outside_mem.specs.Memory.{source_left}
use Rattle.sq_outside_mem.specs.declared.mem_child.MemChildOut.{MemChildOut}
use Rattle.sq_outside_mem.specs.declared.mem_source.MemSource.{MemSource}

-- the source that has the bytes
abbrev pub child_source : MemChildOut → MemSource
child_source s = s.source

-- whether it waits for a wire
abbrev pub child_waits : MemChildOut → Bool
child_waits s = is_some s.waits

-- the bytes that it will say, where it does not wait
abbrev pub child_left : MemChildOut → Option (List ℕ)
child_left s = if child_waits s then None else Some (source_left (child_source s))
