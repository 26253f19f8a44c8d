-- Values of digits, and ports.
use Rattle.std.proofs.Common.{◌≡◌, ℕ, ◌≤◌, false, Some, None, if◌then◌else◌, nat_lt, arith, refl}
use Rattle.std.proofs.lemmas.Bool.Decides.{nat_tests}

-- a number past the limit is no port
pub too_great : (n : ℕ) → 65536 ≤ n → None ≡ (if nat_lt n 65536 then Some n else None)
too_great n h = let past : nat_lt n 65536 ≡ false = grind (arith, nat_tests) in rw past refl
