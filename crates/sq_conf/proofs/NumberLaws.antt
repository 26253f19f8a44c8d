-- Numbers with leading zeros.
use Rattle.std.proofs.Common.{◌≡◌, ℕ, ◌<◌, List, None, nat_le, bit_or, arith}
use Rattle.std.proofs.lemmas.Bool.Decides.{nat_tests}
use Rattle.std.proofs.lemmas.Nat.{or_lt}
use Rattle.sq_base.proofs.CommonLaws.{left_out}
use Rattle.sq_base.specs.Decimals.{read_on}
use Rattle.sq_rules.specs.ConfNumbers.{digits_of, is_digits}

-- a number above the most
pub digits_past : (most : ℕ) (word : List ℕ) → most < read_on 0 word → digits_of most word ≡ None
unfolding digits_of
digits_past most word h = left_out (is_digits word) (nat_le (read_on 0 word) most) (read_on 0 word)
    (grind (arith, nat_tests))

-- bits of seven weekdays stay so
pub seven_days : (a b : ℕ) → a < 128 → b < 128 → bit_or a b < 128
seven_days a b h k = or_lt 7 a b h k
