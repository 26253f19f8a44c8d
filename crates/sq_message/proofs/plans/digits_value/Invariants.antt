use Rattle.std.proofs.Common.{◌≡◌, ◌<◌, drop}
use Rattle.sq_base.specs.Decimals.{number_limit, read_on}
use Rattle.sq_message.proofs.plans.digits_value.Given as goal

-- the value is that of the digits so far, read on
abbrev pub invariant-loop-byte : goal.invariant-loop-byte
invariant-loop-byte l = (read_on l.number (drop l.byte-index l.digits) ≡ read_on 0 l.digits) × (l.number < number_limit)
