-- The bytes in a pipe.
use Rattle.std.specs.Prelude.{ℕ, Bool, ◌&&◌, ◌==◌}
use Rattle.sq_dst.specs.declared.ring.Ring.{Ring}

-- so many bytes a pipe holds
abbrev pub ring_room : ℕ
ring_room = 16384

-- a write has to wait: there is no room, and both halves are there
abbrev pub is_full : Ring → Bool
is_full r = r.count == ring_room && (r.has_reader && r.has_writer)
