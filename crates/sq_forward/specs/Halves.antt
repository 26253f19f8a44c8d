-- A source with the bytes that were read ahead of it.
use Rattle.std.specs.Prelude.{List, ℕ}
use Rattle.std.specs.declared.option.Option.{Option}
use Rattle.std.specs.Io.KnownBytes.{prepend_known}
use Rattle.sq_forward.specs.declared.half.Half.{Half}
pub use Rattle.sq_forward.specs.Buffers.{read_limit, large_read_limit, Filled}

-- what a half has to come: the bytes ahead, and those that its source has left, where that tells
-- them
abbrev pub to_come : {S : Type 0} → (S → Option (List ℕ)) → Half S → Option (List ℕ)
to_come left half = prepend_known half.ahead (left half.source)
