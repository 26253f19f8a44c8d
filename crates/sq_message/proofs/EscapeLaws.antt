-- What percent-encoding writes for the escaped set is the escaped text.
use Rattle.std.proofs.Common.{◌≡◌, ℕ, ◌≤◌, true, List, [], ◌∷◌, refl, ap, arith, ⊎_elim, if◌then◌else◌}
use Rattle.std.proofs.lemmas.Bool.{agree_below, agree_below_at, cases_lt}
use Rattle.std.proofs.lemmas.Bool.Decides.{nat_tests}
use Rattle.std.proofs.Math.Path.{fun_ext}
use Rattle.std.specs.List.{flat_map}
use Rattle.percent_encoding.specs.AsciiSet.{should_percent_encode}
use Rattle.percent_encoding.specs.Percent.{percent_encode, percent_encode_byte}
use Rattle.sq_base.specs.Escapes.{is_escaped, escaped}
use Rattle.sq_message.specs.declared.escaping.TheConstants.{ESCAPES}

below : agree_below (should_percent_encode ESCAPES) is_escaped 128 ≡ true
unfolding should_percent_encode
below = refl

above : (b : ℕ) → 128 ≤ b → should_percent_encode ESCAPES b ≡ is_escaped b
unfolding should_percent_encode
above b le = grind (arith, nat_tests)

-- the set of bytes is the test of the definition
same_test : (b : ℕ) → should_percent_encode ESCAPES b ≡ is_escaped b
same_test b = ⊎_elim (λ under. agree_below_at (should_percent_encode ESCAPES) is_escaped 128 b below under)
    (λ over. above b over) (cases_lt b 128)

-- what is written is the escaped text
pub encodes : (bytes : List ℕ) → percent_encode ESCAPES bytes ≡ escaped bytes
unfolding percent_encode escaped
encodes bytes = ap (λ f. flat_map f bytes)
    (fun_ext (λ b. ap (λ t. if t then percent_encode_byte b else b ∷ []) (same_test b)))
