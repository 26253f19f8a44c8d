use Rattle.std.proofs.Common.{◌≡◌, ◌≤◌, drop}
use Rattle.sq_base.specs.Decimals.{read_on}
use Rattle.sq_conf.proofs.numbers.digits_of.Given as goal

-- the value is that of the digits so far, read on
abbrev pub invariant-loop-byte : goal.invariant-loop-byte
invariant-loop-byte l = (read_on l.number (drop l.byte-index l.word) ≡ read_on 0 l.word) × (l.number ≤ l.most)
