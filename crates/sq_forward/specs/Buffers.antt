-- Bytes that were read ahead, in their buffer.
use Rattle.std.specs.Prelude.{◌≡◌, ℕ, ◌+◌, ◌<◌, ◌≤◌, List, length, Bool, true, false}
use Rattle.std.specs.declared.option.Option.{Option}
use Rattle.std.specs.Io.KnownBytes.{IsAtEnd}

-- at most so many bytes of a head are read at a time, and so many on a seat
abbrev pub read_limit : ℕ
read_limit = 16384

-- at most so many bytes of a body or of a way of a tunnel are read at a time where no seat is held
abbrev pub large_read_limit : ℕ
large_read_limit = 65536

-- the bytes stand in it from one place to another, with few before them and few behind
pub record IsBuffer (bytes : List ℕ) (start end : ℕ) : Type 0 where
  pub ordered : start ≤ end
  pub within : end ≤ length bytes
  pub before : start < read_limit
  pub behind : length bytes ≤ end + large_read_limit

-- some bytes came; or none did, and the source has none left
abbrev pub Filled : List ℕ → List ℕ → Option (List ℕ) → Bool → Type 0
Filled before now left true = length before < length now
Filled before now left false = (now ≡ before) × IsAtEnd left
