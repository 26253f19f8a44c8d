-- The digits of a size, written from the last one on.
use Rattle.std.proofs.Common.{◌≡◌, ℕ, zero, suc, ◌+◌, ◌-◌, ◌/◌, ◌%◌, ◌<◌, Bool, true, false, cond, ◌==◌, List, [], ◌∷◌, ◌++◌, refl, ap, ◌∙◌, arith}
use Rattle.std.specs.Fmt.{digits, digits_onto, digit_glyph}

either_more : (last : Bool) (d : ℕ) (front back more : List ℕ) → cond last (d ∷ front ++ more) (back ++ more)
    ≡ cond last (d ∷ front) back ++ more
either_more true d front back more = refl
either_more false d front back more = refl

onto_more : (k n : ℕ) (front more : List ℕ)
    → digits_onto k 16 false n (front ++ more) ≡ digits_onto k 16 false n front ++ more
onto_more zero n front more = refl
onto_more (suc k) n front more =
    let d = digit_glyph false (n % 16) in
    ap (cond (n / 16 == 0) (d ∷ front ++ more)) (onto_more k (n / 16) (d ∷ front) more)
    ∙ either_more (n / 16 == 0) d front (digits_onto k 16 false (n / 16) (d ∷ front)) more

-- all digits, before more
pub onto_digits : (n : ℕ) (more : List ℕ) → digits_onto 64 16 false n more ≡ digits 16 false n ++ more
unfolding digits
onto_digits n more = onto_more 64 n [] more

-- the digit before is the first one
pub onto_last : (k n : ℕ) (more : List ℕ) → 0 < k → n / 16 ≡ 0
    → digits_onto k 16 false n more ≡ digit_glyph false (n % 16) ∷ more
onto_last zero n more h e = absurd (omega arith)
onto_last (suc k) n more h e = let is : (n / 16 == 0) ≡ true = grind arith in
    ap (λ (t : Bool). cond t (digit_glyph false (n % 16) ∷ more)
    (digits_onto k 16 false (n / 16) (digit_glyph false (n % 16) ∷ more))) is

-- there are more before it
pub onto_step : (k n : ℕ) (more : List ℕ) → 0 < k → (n / 16 ≡ 0 → ⊥)
    → digits_onto k 16 false n more ≡ digits_onto (k - 1) 16 false (n / 16) (digit_glyph false (n % 16) ∷ more)
onto_step zero n more h e = absurd (omega arith)
onto_step (suc k) n more h e = let is : (n / 16 == 0) ≡ false = grind arith in
    ap (λ (t : Bool). cond t (digit_glyph false (n % 16) ∷ more)
    (digits_onto k 16 false (n / 16) (digit_glyph false (n % 16) ∷ more))) is
    ∙ ap (λ j. digits_onto j 16 false (n / 16) (digit_glyph false (n % 16) ∷ more)) (omega arith)
