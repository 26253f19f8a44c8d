-- Blocks of addresses stay within the addresses of their kind.
use Rattle.std.proofs.Common.{◌≡◌, ℕ, zero, suc, ◌+◌, ◌-◌, ◌*◌, ◌/◌, ◌%◌, ◌^◌, ◌<◌, ◌≤◌, Bool, true, false, List, Option, Some, None, arith, refl, sym, ◌∙◌, ap, subst, eqb-true, ltb-true, lt-ltb, count_ones, mul_comm, mul-add, mul-one, inl, inr}
use Rattle.std.proofs.lemmas.Bool.{cases_eq, cases_lt}
use Rattle.std.proofs.Math.Pow.{pow-lt}
use Rattle.std.proofs.lemmas.Nat.{pow-add, zero_from_ones, ones-le, mul-le}
use Rattle.std.specs.Int.Count.{ones_step}
use Rattle.std.proofs.lemmas.Option.{none-some, same_Some, cond_some}
use Rattle.std.proofs.Math.Nat.{div-lt_iff_lt-mul, div-add-mod, pow-succ'}
use Rattle.std.specs.Int.{is_power_of_two}
use Rattle.sq_base.specs.Addresses.{Address, IsAddress, v4_of}
use Rattle.sq_base.specs.Decimals.{number_of}
use Rattle.sq_base.specs.Ranges.{Divides, block, bits_of, size_by, block_size}

power_within : (d n : ℕ) → n ≤ d → count_ones n ≡ 1 → (k : ℕ) × (n ≡ 2 ^ k)
power_within zero n h e = absurd (omega (arith, ones-le 0 n (omega arith)))
power_within (suc d) n h e =
    let s = ones_step n in
    elim (cases_eq (n % 2) 0) [
      | inl even ↦
          let half = power_within d (n / 2) (omega arith) (omega arith) in
          let twice : n ≡ 2 * 2 ^ half.0 = omega (arith, half.1) in
          (suc half.0, twice ∙ sym (pow-succ' 2 half.0))
      | inr odd ↦ let none = zero_from_ones (n / 2) (omega arith) in (0, omega arith)
    ]

-- a number with one bit is a power of two
power_of_two : (n : ℕ) → is_power_of_two n ≡ true → (k : ℕ) × (n ≡ 2 ^ k)
power_of_two n h = power_within n n (omega arith) (eqb-true (count_ones n) 1 h)

power_divides : (k bits : ℕ) → k ≤ bits → Divides (2 ^ k) (2 ^ bits)
power_divides k bits h =
    let whole : k + (bits - k) ≡ bits = omega arith in
    (2 ^ (bits - k), sym (pow-add 2 k (bits - k)) ∙ ap (λ t. 2 ^ t) whole)

power_below : (k bits : ℕ) → 2 ^ k ≤ 2 ^ bits → k ≤ bits
power_below k bits h = elim (cases_lt bits k) [ inl over ↦ absurd (omega (arith, pow-lt over)) | inr fits ↦ fits ]

sized : (v6 : Bool) (n mask : Option ℕ) (size : ℕ) → size_by v6 n mask ≡ Some size → Divides size (2 ^ bits_of v6)
sized v6 (Some n) mask size e =
    subst (λ s. Divides s (2 ^ bits_of v6)) (same_Some _ size e)
    (power_divides (bits_of v6 - n) (bits_of v6) (omega arith))
sized false None (Some mask) size e =
    let parts = cond_some _ _ _ e in
    let power = power_of_two (2 ^ 32 - mask) parts.0 in
    let fits = power_below power.0 32 (omega (arith, power.1)) in
    subst (λ s. Divides s (2 ^ 32)) (sym power.1 ∙ parts.1) (power_divides power.0 32 fits)
sized false None None size e = absurd (none-some size e)
sized true None mask size e = absurd (none-some size e)

-- the size of a block divides the addresses of its kind
pub block_size_divides : (v6 : Bool) (word : List ℕ) (size : ℕ) → block_size v6 word ≡ Some size
    → Divides size (2 ^ bits_of v6)
unfolding block_size
block_size_divides v6 word size e = sized v6 (number_of (bits_of v6 + 1) word) (v4_of word) size e

last_fits : (n start rest size total : ℕ) → start + rest ≡ n → rest < size → start + size ≤ total
    → n - rest + (size - 1) < total
last_fits n start rest size total e h fits = omega arith

-- a block ends within the addresses that its size divides
pub block_within : (n size total : ℕ) → Divides size total → n < total → n - n % size + (size - 1) < total
block_within n zero total d h = absurd (omega (arith, d.1))
block_within n (suc s) total d h =
    let size = suc s in
    let below : n < d.0 * size = omega (arith, d.1, mul_comm size d.0) in
    let place = (div-lt_iff_lt-mul {k = size} {x = n} {y = d.0} (omega arith)).1 below in
    let room = mul-le size (n / size + 1) size d.0 (omega arith) (omega arith) in
    last_fits n (size * (n / size)) (n % size) size total (div-add-mod n size) (omega arith)
    (omega (arith, room, d.1, mul-add size (n / size) 1, mul-one size))

in_kind : (v6 : Bool) (n size : ℕ) → IsAddress (record { v6 = v6; number = n }) → Divides size (2 ^ bits_of v6)
    → IsAddress (record { v6 = v6; number = n - n % size + (size - 1) })
in_kind false n size h d =
    let fits = block_within n size (2 ^ 32) d (ltb-true n (2 ^ 32) (h.0 refl)) in
    (λ e. lt-ltb _ _ fits, lt-ltb _ _ (omega arith))
in_kind true n size h d =
    let fits = block_within n size (2 ^ 128) d (ltb-true n (2 ^ 128) h.1) in
    (λ e. absurd (cc), lt-ltb _ _ fits)

-- the ends of a block are addresses
pub block_ends_well : (a : Address) (size : ℕ) → IsAddress a → Divides size (2 ^ bits_of a.v6)
    → IsAddress (block size a).last
block_ends_well a size h d = in_kind a.v6 a.number size h d

-- the same by the first address and the open bits
pub block_end_address : (a : Address) (low first : ℕ) → IsAddress a → Divides (low + 1) (2 ^ bits_of a.v6)
    → first ≡ a.number - a.number % (low + 1)
    → IsAddress (record a { number = first + low })
block_end_address a low first h d e =
    let same : a.number - a.number % (low + 1) + (low + 1 - 1) ≡ first + low = omega arith in
    subst (λ n. IsAddress (record a { number = n })) same (block_ends_well a (low + 1) h d)
