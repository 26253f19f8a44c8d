-- Days that no weekdays have.
use Rattle.std.proofs.Common.{◌≡◌, ℕ, ◌/◌, ◌^◌, ◌<◌, ◌≤◌, false, refl, arith, lit<}
use Rattle.std.proofs.Math.Nat.{div-eq_of_lt, pow-le-pow_right}
use Rattle.sq_rules.specs.Times.{has_day}

-- a byte has the bits of eight days alone
pub no_day : (days day : ℕ) → days < 256 → 8 ≤ day → has_day days day ≡ false
no_day days day small late =
    let power : 256 ≤ 2 ^ day = pow-le-pow_right {n = 2} (lit< tt) {i = 8} {j = day} late in
    let none : days / 2 ^ day ≡ 0 = div-eq_of_lt {n = days} {m = 2 ^ day} (omega (arith, small, power)) in
    rw none refl
