-- What is kept of halves, and for how many more there is room.
use Rattle.std.specs.Prelude.{ℕ, ◌-◌, List, vec_len, vec_capacity}
use Rattle.sq_keeper.specs.declared.pipes.Pipe.{Pipe}
use Rattle.sq_keeper.specs.declared.pipes.Pipes.{Pipes}

-- the halves, the oldest first
abbrev pub pipes_of : {O : Type 0} → Pipes O → List (Pipe O)
pipes_of p = p.items.items

-- for how many more there is room
abbrev pub room_of : {O : Type 0} → Pipes O → ℕ
room_of p = vec_capacity p.items - vec_len p.items
