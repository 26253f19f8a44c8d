-- Laws of a place put into the set of a word, and taken out of it.
use Rattle.std.proofs.Common.{◌≡◌, ℕ, ◌-◌, ◌*◌, ◌%◌, ◌^◌, ◌<◌, ◌≤◌, Bool, true, false, if◌then◌else◌, ◌==◌, bit_and, bit_or, refl, arith, ap, ◌∙◌, ⊎_elim}
use mir.Syntax.{w128}
use Rattle.std.proofs.lemmas.Bool.{cases_lt}
use Rattle.std.specs.Int.{bit_at, trailing_zeros}
use Rattle.std.proofs.lemmas.Nat.Bits.{bit_at-trailing_zeros, bit_at_above, bit_at_and, bit_at_clear_other, bit_at_clear_same, bit_at_set_other, bit_at_set_same}
use Rattle.sq_epochs.specs.Sets.{IsLeast, is_in}

same : (a b : ℕ) → (a == b) ≡ true → a ≡ b
same a b t = grind (arith, t)

apart : (a b : ℕ) → (a == b) ≡ false → a ≡ b → ⊥
apart a b t e = grind (arith, t, e)

-- the bit of a place set
pub put_in : (n k p : ℕ) → k < 128 → is_in p (bit_or n (1 * 2 ^ k % 2 ^ 128)) ≡ (if p == k then true else is_in p n)
put_in n k p within = by_test (p == k) refl
  where
    by_test : (b : Bool) → (p == k) ≡ b → is_in p (bit_or n (1 * 2 ^ k % 2 ^ 128)) ≡ (if b then true else is_in p n)
    by_test true t = ap (λ q. is_in q (bit_or n (1 * 2 ^ k % 2 ^ 128))) (same p k t)
        ∙ ap (λ z. z == 1) (bit_at_set_same w128 n k within)
    by_test false t = ap (λ z. z == 1) (bit_at_set_other w128 n k within p (apart p k t))

-- the bit of a place cleared
pub taken_out : (n k p : ℕ) → k < 128 → n < 2 ^ 128
    → is_in p (bit_and n (2 ^ 128 - 1 - 1 * 2 ^ k % 2 ^ 128)) ≡ (if p == k then false else is_in p n)
taken_out n k p within small = by_test (p == k) refl
  where
    by_test : (b : Bool) → (p == k) ≡ b
        → is_in p (bit_and n (2 ^ 128 - 1 - 1 * 2 ^ k % 2 ^ 128)) ≡ (if b then false else is_in p n)
    by_test true t = ap (λ q. is_in q (bit_and n (2 ^ 128 - 1 - 1 * 2 ^ k % 2 ^ 128))) (same p k t)
        ∙ ap (λ z. z == 1) (bit_at_clear_same w128 n k within)
    by_test false t = ap (λ z. z == 1) (⊎_elim low high (cases_lt p 128))
      where
        rest : ℕ
        rest = 2 ^ 128 - 1 - 1 * 2 ^ k % 2 ^ 128

        low : p < 128 → bit_at (bit_and n rest) p ≡ bit_at n p
        low l = bit_at_clear_other w128 n k within p l (apart p k t)

        high : 128 ≤ p → bit_at (bit_and n rest) p ≡ bit_at n p
        high l = let both = bit_at_and n rest p in let none = bit_at_above n 128 p small l in omega (arith, both, none)

-- the lowest bit that is set
pub lowest : (n : ℕ) → 0 < n → n < 2 ^ 128 → IsLeast n (trailing_zeros w128 n)
lowest n some small =
    let found = bit_at-trailing_zeros w128 n some small in
    record { within = ap (λ z. z == 1) found.1; least = λ q below. ap (λ z. z == 1) (found.2 q below) }
