-- What percent-encoding writes for the set of keys is the text as it stands in a key.
use Rattle.std.proofs.Common.{◌≡◌, ℕ, ◌≤◌, true, List, [], ◌∷◌, refl, ap, arith, ⊎_elim, if◌then◌else◌}
use Rattle.std.proofs.lemmas.Bool.{agree_below, agree_below_at, cases_lt}
use Rattle.std.proofs.lemmas.Bool.Decides.{nat_tests}
use Rattle.std.proofs.Math.Path.{fun_ext}
use Rattle.std.specs.List.{flat_map}
use Rattle.percent_encoding.specs.AsciiSet.{should_percent_encode}
use Rattle.percent_encoding.specs.Percent.{percent_encode, percent_encode_byte}
use Rattle.sq_rules.specs.Keys.{is_key_escaped, key_escaped}
use Rattle.sq_format.specs.declared.escapes.TheConstants.{KEY_ESCAPES}

below : agree_below (should_percent_encode KEY_ESCAPES) is_key_escaped 128 ≡ true
unfolding should_percent_encode
below = refl

above : (b : ℕ) → 128 ≤ b → should_percent_encode KEY_ESCAPES b ≡ is_key_escaped b
unfolding should_percent_encode
above b le = grind (arith, nat_tests)

pub same_test : (b : ℕ) → should_percent_encode KEY_ESCAPES b ≡ is_key_escaped b
same_test b = ⊎_elim (λ under. agree_below_at (should_percent_encode KEY_ESCAPES) is_key_escaped 128 b below under)
    (λ over. above b over) (cases_lt b 128)

pub encodes : (bytes : List ℕ) → percent_encode KEY_ESCAPES bytes ≡ key_escaped bytes
unfolding percent_encode key_escaped
encodes bytes = ap (λ f. flat_map f bytes)
    (fun_ext (λ b. ap (λ t. if t then percent_encode_byte b else b ∷ []) (same_test b)))
