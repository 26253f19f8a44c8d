-- Texts as they stand in a key: what percent-encoding writes for the set of keys, and what it reads back.
use Rattle.std.proofs.Common.{◌≡◌, ℕ, ◌≤◌, ◌/◌, ◌%◌, ◌==◌, Bool, true, false, not, List, [], ◌∷◌, refl, sym, ap, ◌∙◌, arith, ⊎_elim, if◌then◌else◌}
use Rattle.std.proofs.lemmas.Bool.{agree_below, agree_below_at, and_from, cases_lt}
use Rattle.std.proofs.lemmas.List.Folds.{list_all-append}
use Rattle.std.proofs.lemmas.Bool.Decides.{nat_tests}
use Rattle.std.proofs.Math.Path.{fun_ext}
use Rattle.std.specs.Fmt.{digit_glyph}
use Rattle.std.specs.List.{flat_map, list_all}
use Rattle.percent_encoding.proofs.PercentLemmas.{round_trip}
use Rattle.percent_encoding.specs.AsciiSet.{should_percent_encode}
use Rattle.percent_encoding.specs.Percent.{percent_decode, percent_encode, percent_encode_byte}
use Rattle.sq_base.specs.Bytes.{space}
use Rattle.sq_base.specs.Texts.{AreBytes}
use Rattle.sq_dst.specs.declared.escapes.TheConstants.{KEY_ESCAPES}
use Rattle.sq_rules.specs.Keys.{is_key_escaped, key_escaped, key_escaped_byte}

below : agree_below (should_percent_encode KEY_ESCAPES) is_key_escaped 128 ≡ true
unfolding should_percent_encode
below = refl

above : (b : ℕ) → 128 ≤ b → should_percent_encode KEY_ESCAPES b ≡ is_key_escaped b
unfolding should_percent_encode
above b le = grind (arith, nat_tests)

same_test : (b : ℕ) → should_percent_encode KEY_ESCAPES b ≡ is_key_escaped b
same_test b = ⊎_elim (λ under. agree_below_at (should_percent_encode KEY_ESCAPES) is_key_escaped 128 b below under)
    (λ over. above b over) (cases_lt b 128)

pub encodes : (bytes : List ℕ) → percent_encode KEY_ESCAPES bytes ≡ key_escaped bytes
unfolding percent_encode key_escaped
encodes bytes = ap (λ f. flat_map f bytes)
    (fun_ext (λ b. ap (λ t. if t then percent_encode_byte b else b ∷ []) (same_test b)))

-- an escaped text is read back
pub decodes : (bytes : List ℕ) → AreBytes bytes → percent_decode (key_escaped bytes) ≡ bytes
decodes bytes small = ap percent_decode (sym (encodes bytes)) ∙ round_trip KEY_ESCAPES bytes refl small

-- no space stands in the word of a text

abbrev pub has_none : List ℕ → Bool
has_none word = list_all (λ b. not (b == space)) word

glyph : (d : ℕ) → not (digit_glyph true d == space) ≡ true
glyph d = grind (arith, nat_tests)

byte_word : (b : ℕ) → has_none (percent_encode_byte b) ≡ true
unfolding percent_encode_byte
byte_word b = and_from _ _ refl (and_from _ _ (glyph (b / 16 % 16)) (and_from _ _ (glyph (b % 16)) refl))

kept : (b : ℕ) → is_key_escaped b ≡ false → not (b == space) ≡ true
kept b e = grind (arith, nat_tests, e)

one_word : (b : ℕ) (t : Bool) → is_key_escaped b ≡ t → has_none (if t then percent_encode_byte b else b ∷ []) ≡ true
one_word b true e = byte_word b
one_word b false e = and_from _ _ (kept b e) refl

pub spaceless : (bytes : List ℕ) → has_none (key_escaped bytes) ≡ true
unfolding key_escaped
spaceless [] = refl
spaceless (b ∷ bytes) = list_all-append (λ c. not (c == space)) (key_escaped_byte b) (flat_map key_escaped_byte bytes)
    ∙ and_from _ _ (one_word b (is_key_escaped b) refl) (spaceless bytes)
