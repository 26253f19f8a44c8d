use Rattle.std.proofs.Common.{◌≡◌, drop}
use Rattle.sq_turns.specs.Begins.{is_blank, is_blank_from}
use Rattle.sq_turns.proofs.beginning.is_blank.Given as goal

-- what is left decides
abbrev pub invariant-loop-byte : goal.invariant-loop-byte
invariant-loop-byte l = is_blank_from l.after_cr (drop l.byte-index l.bytes) ≡ is_blank l.bytes
