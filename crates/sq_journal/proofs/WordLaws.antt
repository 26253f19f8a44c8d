-- Single words: what is written of a value is read, and nothing else.
use Rattle.std.proofs.Common.{◌≡◌, ℕ, ◌^◌, ◌<◌, ◌≤◌, ℤ, pos, negsuc, List, [], ◌∷◌, Bool, true, false, ◌==◌, Some, None, Option, zero, suc, if◌then◌else◌, decimal, codes, bytes_eq, All, arith, refl, sym, ap, subst, ◌∙◌, inl, inr, option_map, option_and_then}
use Rattle.std.proofs.Math.Dec.{le→leb, leb→le}
use Rattle.std.proofs.lemmas.Bool.Decides.{nat_tests}
use Rattle.std.proofs.lemmas.Fmt.{decimal_is_IsNumeral}
use Rattle.std.proofs.lemmas.List.Elements.{All-nil, All-cons, All-head, All-from_get_or}
use Rattle.std.proofs.lemmas.Slice.Eq.{bytes_eq-Decides}
use Rattle.std.proofs.lemmas.Str.Parse.{digit_at}
use Rattle.std.specs.Fmt.{signed_decimal, digits}
use Rattle.std.specs.Int.{IsInRange}
use Rattle.percent_encoding.specs.AsciiSet.{should_percent_encode}
use Rattle.percent_encoding.specs.Percent.{percent_decode, percent_encode_byte}
use Rattle.percent_encoding.proofs.PercentLemmas.{round_trip, All-percent_decode, All-percent_encode, IsEscapeByte}
use Rattle.std.proofs.lemmas.Option.{same_Some, none-some}
use Rattle.sq_base.specs.Decimals.{number_of}
use Rattle.sq_base.specs.Escapes.{is_escaped, escaped, text_word, text_of, unescaped}
use Rattle.sq_base.proofs.CommonLaws.{if_some}
use Rattle.sq_base.proofs.NumberLaws.{number_again, number_sound}
use Rattle.sq_journal.specs.declared.escapes.TheConstants.{ESCAPES}
use Rattle.sq_journal.specs.Lines.{is_space}
use Rattle.sq_journal.specs.Reading.{offset_from, negative}
use Rattle.sq_base.specs.Texts.{AreBytes}
use Rattle.sq_journal.specs.Values.{IsOffset}
use Rattle.sq_journal.proofs.EscapeLaws.{same_test, encodes}
use Rattle.sq_journal.proofs.LineLaws.{IsPlain, plain_word}

-- the word that is written is read, no other is, and it has no space
pub record ExactWord {A : Type 0} (of : List ℕ → Option A) (word : A → List ℕ) (Fits : A → Type 0) : Type 0 where
  pub again : (x : A) → Fits x → of (word x) ≡ Some x
  pub takes : (w : List ℕ) (x : A) → AreBytes w → of w ≡ Some x → (w ≡ word x) × Fits x
  pub plain : (x : A) → Fits x → IsPlain (word x)

-- words that compare as the same are the same
pub word_is : (v w : List ℕ) → bytes_eq v w ≡ true → v ≡ w
word_is v w h = (bytes_eq-Decides v w).0 h

-- a word compares as the same as itself
pub word_same : (w : List ℕ) → bytes_eq w w ≡ true
word_same w = (bytes_eq-Decides w w).1 refl

digit_plain : (c : ℕ) → IsInRange 48 57 c → is_space c ≡ false
digit_plain c h = grind (arith, nat_tests)

-- no digit of a number is a space
pub decimal_plain : (n : ℕ) → n < 2 ^ 64 → IsPlain (decimal n)
decimal_plain n h = All-from_get_or (λ b. is_space b ≡ false) (decimal n) 0
    (λ i l. digit_plain _ (digit_at (decimal n) i (decimal_is_IsNumeral n h).0.1 l))

-- the words of numbers below a limit
pub number_exact : (limit : ℕ) → limit ≤ 2 ^ 64 → ExactWord (number_of limit) decimal (λ n. n < limit)
number_exact limit top = record {
  again = λ n h. number_again limit n h top;
  takes = λ w n small e. number_sound limit w n e;
  plain = λ n h. decimal_plain n (omega (arith, h, top));
}

below_zero : (rest : List ℕ) (o : Option ℕ) (z : ℤ) → number_of 841 rest ≡ o → option_and_then negative o ≡ Some z
    → (45 ∷ rest ≡ signed_decimal z) × IsOffset z
below_zero rest None z is e = absurd (none-some z e)
below_zero rest (Some zero) z is e = absurd (none-some z e)
below_zero rest (Some (suc n)) z is e =
    let s = number_sound 841 rest (suc n) is in
    subst (λ y. (45 ∷ rest ≡ signed_decimal y) × IsOffset y) (same_Some (negsuc n) z e)
    (ap (λ l. 45 ∷ l) s.0, (record { le = le→leb n 839 (omega (arith, s.1)) }, record { le = tt }))

from_zero : (word : List ℕ) (o : Option ℕ) (z : ℤ) → number_of 841 word ≡ o → option_map pos o ≡ Some z
    → (word ≡ signed_decimal z) × IsOffset z
from_zero word None z is e = absurd (none-some z e)
from_zero word (Some n) z is e =
    let s = number_sound 841 word n is in
    subst (λ y. (word ≡ signed_decimal y) × IsOffset y) (same_Some (pos n) z e)
    (s.0, (record { le = tt }, record { le = le→leb n 840 (omega (arith, s.1)) }))

offset_at : (b : ℕ) (rest : List ℕ) (t : Bool) (z : ℤ) → (b == 45) ≡ t
    → (if t then option_and_then negative (number_of 841 rest) else option_map pos (number_of 841 (b ∷ rest))) ≡ Some z
    → (b ∷ rest ≡ signed_decimal z) × IsOffset z
offset_at b rest true z is e =
    let m = below_zero rest (number_of 841 rest) z refl e in
    let first : b ≡ 45 = grind (arith, nat_tests, is) in
    (ap (λ c. c ∷ rest) first ∙ m.0, m.1)
offset_at b rest false z is e = from_zero (b ∷ rest) (number_of 841 (b ∷ rest)) z refl e

offset_takes : (w : List ℕ) (z : ℤ) → offset_from w ≡ Some z → (w ≡ signed_decimal z) × IsOffset z
unfolding offset_from
offset_takes [] z e = absurd (none-some z e)
offset_takes (b ∷ rest) z e = offset_at b rest (b == 45) z refl e

empty_number : (n : ℕ) → number_of 841 [] ≡ Some n → ⊥
unfolding number_of digits
empty_number n e = absurd (cc)

below_again : (n : ℕ) → n < 840 → offset_from (45 ∷ decimal (suc n)) ≡ Some (negsuc n)
unfolding offset_from
below_again n h = rw (number_again 841 (suc n) (omega arith) (omega arith)) refl

-- digits, whose first byte is no `-`
digits_read : (w : List ℕ) (n : ℕ) → All (λ b. IsInRange 48 57 b) w → number_of 841 w ≡ Some n
    → offset_from w ≡ Some (pos n)
unfolding offset_from
digits_read [] n h e = absurd (empty_number n e)
digits_read (b ∷ rest) n h e =
    let head : IsInRange 48 57 b = All-head (λ c. IsInRange 48 57 c) b rest h in
    let first : (b == 45) ≡ false = grind (arith, nat_tests) in
    rw (first, e) refl

-- the text of a number is of digits
pub all_digits : (n : ℕ) → n < 2 ^ 64 → All (λ b. IsInRange 48 57 b) (decimal n)
all_digits n h = All-from_get_or (λ b. IsInRange 48 57 b) (decimal n) 0
    (λ i l. digit_at (decimal n) i (decimal_is_IsNumeral n h).0.1 l)

offset_again : (z : ℤ) → IsOffset z → offset_from (signed_decimal z) ≡ Some z
offset_again (pos n) h =
    let small : n < 841 = omega (arith, leb→le n 840 h.1.le) in
    digits_read (decimal n) n (all_digits n (omega arith)) (number_again 841 n small (omega arith))
offset_again (negsuc n) h = below_again n (omega (arith, leb→le n 839 h.0.le))

offset_plain : (z : ℤ) → IsOffset z → IsPlain (signed_decimal z)
offset_plain (pos n) h = decimal_plain n (omega (arith, leb→le n 840 h.1.le))
offset_plain (negsuc n) h = All-cons (λ b. is_space b ≡ false) 45 (decimal (suc n)) refl
    (decimal_plain (suc n) (omega (arith, leb→le n 839 h.0.le)))

-- the words of offsets
pub offset_exact : ExactWord offset_from signed_decimal IsOffset
offset_exact = record { again = offset_again; takes = λ w z small e. offset_takes w z e; plain = offset_plain }

-- the text of escaped bytes reads back
back : (bytes : List ℕ) → AreBytes bytes → percent_decode (escaped bytes) ≡ bytes
back bytes small = ap percent_decode (sym (encodes bytes)) ∙ round_trip ESCAPES bytes refl small

dash_decoded : percent_decode (codes "-") ≡ codes "-"
unfolding percent_decode
dash_decoded = refl

not_dash : (bytes : List ℕ) (b : Bool) → AreBytes bytes → bytes_eq bytes (codes "-") ≡ false
    → bytes_eq (escaped bytes) (codes "-") ≡ b → b ≡ false
not_dash bytes false small h e = refl
not_dash bytes true small h e =
    let is : bytes ≡ codes "-" = sym (back bytes small) ∙ ap percent_decode (word_is (escaped bytes) (codes "-") e)
    ∙ dash_decoded in
    sym (sym h ∙ ap (λ t. bytes_eq t (codes "-")) is)

unescaped_at : (bytes : List ℕ) (t : Bool) → bytes_eq bytes (codes "-") ≡ t → AreBytes bytes
    → unescaped (if t then codes "%2D" else escaped bytes) ≡ bytes
unfolding percent_decode
unescaped_at bytes true e small = sym (word_is bytes (codes "-") e)
unescaped_at bytes false e small = rw (not_dash bytes (bytes_eq (escaped bytes) (codes "-")) small e refl)
    (back bytes small)

unescaped_word : (bytes : List ℕ) → AreBytes bytes → unescaped (text_word bytes) ≡ bytes
unfolding text_word
unescaped_word [] small = refl
unescaped_word (b ∷ bs) small = unescaped_at (b ∷ bs) (bytes_eq (b ∷ bs) (codes "-")) refl small

text_reads : (word bytes : List ℕ) → unescaped word ≡ bytes → word ≡ text_word bytes → text_of word ≡ Some bytes
unfolding text_of
text_reads word bytes u w =
    let t : bytes_eq word (text_word (unescaped word)) ≡ true =
    (bytes_eq-Decides word (text_word (unescaped word))).1 (w ∙ ap text_word (sym u)) in
    rw t (ap Some u)

unescaped_bytes : (word : List ℕ) (t : Bool) → AreBytes word → AreBytes (if t then [] else percent_decode word)
unescaped_bytes word true small = All-nil (λ b. b < 256)
unescaped_bytes word false small = All-percent_decode word small

text_takes : (w bytes : List ℕ) → AreBytes w → text_of w ≡ Some bytes → (w ≡ text_word bytes) × AreBytes bytes
unfolding text_of
text_takes w bytes small e =
    let c = if_some (bytes_eq w (text_word (unescaped w))) (Some (unescaped w)) bytes e in
    let is : unescaped w ≡ bytes = same_Some (unescaped w) bytes c.1 in (
      word_is w (text_word (unescaped w)) c.0 ∙ ap text_word is,
      subst AreBytes is (unescaped_bytes w (bytes_eq w (codes "-")) small),
    )

kept_plain : (b : ℕ) → should_percent_encode ESCAPES b ≡ false → is_space b ≡ false
kept_plain b h = let kept : is_escaped b ≡ false = sym (same_test b) ∙ h in grind (arith, nat_tests, kept)

escape_plain : (b : ℕ) → IsEscapeByte b → is_space b ≡ false
escape_plain b (inl e) = rw e refl
escape_plain b (inr (inl r)) = grind (arith, nat_tests)
escape_plain b (inr (inr r)) = grind (arith, nat_tests)

escaped_plain : (bytes : List ℕ) → IsPlain (escaped bytes)
escaped_plain bytes = subst IsPlain (encodes bytes)
    (All-percent_encode (λ b. is_space b ≡ false) ESCAPES bytes kept_plain escape_plain)

plain_at : (bytes : List ℕ) (t : Bool) → IsPlain (if t then codes "%2D" else escaped bytes)
plain_at bytes true = plain_word (codes "%2D") refl
plain_at bytes false = escaped_plain bytes

text_plain : (bytes : List ℕ) → IsPlain (text_word bytes)
unfolding text_word
text_plain [] = plain_word (codes "-") refl
text_plain (b ∷ bs) = plain_at (b ∷ bs) (bytes_eq (b ∷ bs) (codes "-"))

-- the words of texts
pub text_exact : ExactWord text_of text_word AreBytes
text_exact = record {
  again = λ bytes small. text_reads (text_word bytes) bytes (unescaped_word bytes small) refl;
  takes = text_takes;
  plain = λ bytes small. text_plain bytes;
}

-- `=>` is never a text
pub no_arrow : text_of (codes "=>") ≡ None
unfolding text_of text_word escaped percent_decode percent_encode_byte
no_arrow = refl
