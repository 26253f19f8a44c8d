-- Values of digits past the limit.
use Rattle.std.proofs.Common.{◌≡◌, ℕ, ◌≤◌, false, Some, None, if◌then◌else◌, nat_lt, arith, refl}
use Rattle.std.proofs.lemmas.Bool.Decides.{nat_tests}
use Rattle.sq_base.specs.Decimals.{number_limit}

-- a number past the limit is no length
pub too_great : (n : ℕ) → number_limit ≤ n → None ≡ (if nat_lt n number_limit then Some n else None)
too_great n h = let past : nat_lt n number_limit ≡ false = grind (arith, nat_tests) in rw past refl
