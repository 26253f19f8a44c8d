use Rattle.std.proofs.Common.{◌≡◌, ◌≤◌, length, drop, false}
use Rattle.std.specs.Fmt.{digits_onto}
use Rattle.sq_message.proofs.size.put_digits.Given as goal

-- the digits of the rest go before those that are there
abbrev pub invariant-loop-at : goal.invariant-loop-at
invariant-loop-at l = (l.at ≤ 64) × (length l.line ≡ 66)
    × (digits_onto l.at 16 false l.rest (drop l.at l.line) ≡ digits_onto 64 16 false l.number (drop 64 l.fn.line))

abbrev pub decreases-loop-at : goal.decreases-loop-at
decreases-loop-at l = l.at
