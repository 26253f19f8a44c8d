-- What is printed is a line of the grammar that says what was printed.
use Rattle.std.proofs.Common.{◌≡◌, ℕ, ◌+◌, ◌/◌, ◌%◌, ◌<◌, ◌≤◌, ◌++◌, List, [], ◌∷◌, length, Bool, true, false, ◌||◌, ◌==◌, if◌then◌else◌, Some, is_some, IfSome, Ok, Err, Result, IfOk, OnOk, map, nat_lt, replicate, refl, sym, ap, subst, ◌∙◌, arith, append_assoc, append-nil}
use Rattle.std.proofs.lemmas.Bool.{and_parts, and_from, or_parts, cond_both, eqb-true}
use Rattle.std.proofs.lemmas.Bool.Decides.{nat_tests}
use Rattle.std.specs.List.{list_all, list_any, flat_map}
use Rattle.std.specs.Fmt.{digit_glyph}
use Rattle.std.specs.declared.option.Option.{Option}
use Rattle.percent_encoding.specs.Percent.{percent_encode_byte, percent_decode}
use Rattle.percent_encoding.proofs.PercentLemmas.{percent_decode-nil, percent_decode-percent_encode_byte}
use Rattle.std.proofs.lemmas.List.Elements.{All-head, All-tail}
use Rattle.sq_base.specs.declared.helpers.Pair.{Pair}
use Rattle.sq_base.specs.declared.helpers.Reply.{Reply}
use Rattle.sq_base.specs.Replies.{reply_limit, channel_limit, is_value_byte, is_key, meant, reply_of, channel_text, result_text, quoted_byte, value_text, pair_text, reply_text, have_keys}
use Rattle.sq_base.specs.ReplyGrammar.{Mark, Itself, Escaped, ReplyWord, Plain, Quoted, SpacedWord, ReplyLine, mark_text, mark_byte, is_mark, is_plain_value, word_text, word_pairs, is_reply_word, words_text, words_pairs, are_reply_words, line_text}
use Rattle.sq_reply.specs.Printing.{HaveBytes}
use Rattle.sq_base.specs.Texts.{AreBytes}
use Rattle.sq_reply.proofs.MarkLaws.{marks_text}
use Rattle.sq_reply.proofs.TreeLines.{said_reads}

-- how a byte is marked: a CR, an LF, a `"` or a `\`, or another byte
abbrev mark_by : Bool → Bool → Bool → ℕ → Mark
mark_by cr lf other b = if cr then Escaped 114
    else (if lf then Escaped 110 else (if other then Escaped b else Itself b))

abbrev mark_of : ℕ → Mark
mark_of b = mark_by (b == 13) (b == 10) (b == 34 || b == 92) b

abbrev text_by : Bool → Bool → Bool → ℕ → List ℕ
text_by cr lf other b = if cr then 92 ∷ 114 ∷ []
    else (if lf then 92 ∷ 110 ∷ [] else (if other then 92 ∷ b ∷ [] else b ∷ []))

mark_by_text : (cr lf other : Bool) (b : ℕ) → mark_text (mark_by cr lf other b) ≡ text_by cr lf other b
mark_by_text true lf other b = refl
mark_by_text false true other b = refl
mark_by_text false false true b = refl
mark_by_text false false false b = refl

mark_of_text : (b : ℕ) → mark_text (mark_of b) ≡ quoted_byte b
mark_of_text b = mark_by_text (b == 13) (b == 10) (b == 34 || b == 92) b

meant_itself : (b : ℕ) → (b == 34 || b == 92) ≡ true → meant b ≡ b
meant_itself b h = grind (arith, nat_tests)

mark_by_byte : (cr lf other : Bool) (b : ℕ) → (b == 13) ≡ cr → (b == 10) ≡ lf → (b == 34 || b == 92) ≡ other
    → mark_byte (mark_by cr lf other b) ≡ b
mark_by_byte true lf other b h k e = sym (eqb-true b 13 h)
mark_by_byte false true other b h k e = sym (eqb-true b 10 k)
mark_by_byte false false true b h k e = meant_itself b e
mark_by_byte false false false b h k e = refl

mark_of_byte : (b : ℕ) → mark_byte (mark_of b) ≡ b
mark_of_byte b = mark_by_byte (b == 13) (b == 10) (b == 34 || b == 92) b refl refl refl

mark_by_valid : (cr lf other : Bool) (b : ℕ) → (b == 13) ≡ cr → (b == 10) ≡ lf → (b == 34 || b == 92) ≡ other
    → (b == 0) ≡ false → is_mark (mark_by cr lf other b) ≡ true
mark_by_valid true lf other b h k e z = refl
mark_by_valid false true other b h k e z = refl
mark_by_valid false false true b h k e z = rw (z, k, h) refl
mark_by_valid false false false b h k e z = rw (z, k, h, e) refl

mark_of_valid : (b : ℕ) → (b == 0) ≡ false → is_mark (mark_of b) ≡ true
mark_of_valid b z = mark_by_valid (b == 13) (b == 10) (b == 34 || b == 92) b refl refl refl z

-- NUL
abbrev is_nul : ℕ → Bool
is_nul b = b == 0

marks_of_text : (value : List ℕ) → marks_text (map mark_of value) ≡ flat_map quoted_byte value
marks_of_text [] = refl
marks_of_text (b ∷ bs) = rw (mark_of_text b, marks_of_text bs) refl

marks_of_bytes : (value : List ℕ) → map mark_byte (map mark_of value) ≡ value
marks_of_bytes [] = refl
marks_of_bytes (b ∷ bs) = rw (mark_of_byte b, marks_of_bytes bs) refl

marks_of_valid : (value : List ℕ) → list_any is_nul value ≡ false → list_all is_mark (map mark_of value) ≡ true
marks_of_valid [] h = refl
marks_of_valid (b ∷ bs) h =
    let both = or_parts (is_nul b) (list_any is_nul bs) h in
    and_from (is_mark (mark_of b)) (list_all is_mark (map mark_of bs)) (mark_of_valid b both.0)
    (marks_of_valid bs both.1)

glyph_is_value : (d : ℕ) → d < 16 → is_value_byte (digit_glyph true d) ≡ true
glyph_is_value d small =
    cond_both (nat_lt d 10) (48 + d) (55 + d) (λ b. is_value_byte b ≡ true) (λ e. grind (arith, nat_tests))
    (λ e. grind (arith, nat_tests))

-- a value with each byte escaped
abbrev escaped_text : List ℕ → List ℕ
escaped_text value = flat_map percent_encode_byte value

escaped_values : (value : List ℕ) → list_all is_value_byte (escaped_text value) ≡ true
unfolding percent_encode_byte
escaped_values [] = refl
escaped_values (b ∷ bs) =
    let high = glyph_is_value (b / 16 % 16) (omega arith) in
    let low = glyph_is_value (b % 16) (omega arith) in
    and_from (is_value_byte (digit_glyph true (b / 16 % 16))) _ high
    (and_from (is_value_byte (digit_glyph true (b % 16))) _ low (escaped_values bs))

escaped_plain : (value : List ℕ) → is_plain_value (escaped_text value) ≡ true
unfolding percent_encode_byte
escaped_plain [] = refl
escaped_plain (b ∷ bs) = escaped_values (b ∷ bs)

escaped_bytes : (value : List ℕ) → AreBytes value → percent_decode (escaped_text value) ≡ value
escaped_bytes [] h = percent_decode-nil
escaped_bytes (b ∷ bs) h = percent_decode-percent_encode_byte b (escaped_text bs) (All-head (λ c. c < 256) b bs h)
    ∙ ap (λ l. b ∷ l) (escaped_bytes bs (All-tail (λ c. c < 256) b bs h))

-- the word that is printed for a pair, whose value holds NUL or not
abbrev word_for : Bool → Pair → ReplyWord
word_for nul p = if nul then Plain p.key (escaped_text p.value) else Quoted p.key (map mark_of p.value)

abbrev spaced_for : Pair → SpacedWord
spaced_for p = record { more = 0; word = word_for (list_any is_nul p.value) p }

from_left : (key m : List ℕ) → key ++ 61 ∷ [] ++ 34 ∷ [] ++ m ++ 34 ∷ [] ≡ key ++ 61 ∷ 34 ∷ (m ++ 34 ∷ [])
from_left key m = simp append_assoc

from_right : (key m : List ℕ) → key ++ 61 ∷ [] ++ (34 ∷ [] ++ m ++ 34 ∷ []) ≡ key ++ 61 ∷ 34 ∷ (m ++ 34 ∷ [])
from_right key m = append_assoc key (61 ∷ []) (34 ∷ [] ++ m ++ 34 ∷ [])

quoted_regroup : (key m : List ℕ)
    → 32 ∷ [] ++ replicate 0 32 ++ (key ++ 61 ∷ [] ++ 34 ∷ [] ++ m ++ 34 ∷ []) ≡ 32 ∷ [] ++ key ++ 61 ∷ []
    ++ (34 ∷ [] ++ m ++ 34 ∷ [])
quoted_regroup key m = ap (λ l. 32 ∷ l) (from_left key m ∙ sym (from_right key m))

plain_regroup : (key m : List ℕ) → 32 ∷ [] ++ replicate 0 32 ++ (key ++ 61 ∷ [] ++ m) ≡ 32 ∷ [] ++ key ++ 61 ∷ [] ++ m
plain_regroup key m = simp append_assoc

word_for_text : (nul : Bool) (p : Pair) → list_any is_nul p.value ≡ nul
    → 32 ∷ [] ++ replicate 0 32 ++ word_text (word_for nul p) ≡ pair_text p
unfolding value_text
word_for_text true p h = rw h (plain_regroup p.key (escaped_text p.value))
word_for_text false p h = rw (h, ← marks_of_text p.value) (quoted_regroup p.key (marks_text (map mark_of p.value)))

word_for_valid : (nul : Bool) (p : Pair) → list_any is_nul p.value ≡ nul → is_key p.key ≡ true
    → is_reply_word (word_for nul p) ≡ true
word_for_valid true p h k = and_from (is_key p.key) (is_plain_value (escaped_text p.value)) k (escaped_plain p.value)
word_for_valid false p h k = and_from (is_key p.key) (list_all is_mark (map mark_of p.value)) k
    (marks_of_valid p.value h)

word_for_pairs : (nul : Bool) (p : Pair) → AreBytes p.value → word_pairs (word_for nul p) ≡ p ∷ []
word_for_pairs true p h = ap (λ v. record { key = p.key; value = v } ∷ []) (escaped_bytes p.value h)
word_for_pairs false p h = ap (λ v. record { key = p.key; value = v } ∷ []) (marks_of_bytes p.value)

words_for_text : (ps : List Pair) → words_text (map spaced_for ps) ≡ flat_map pair_text ps
words_for_text [] = refl
words_for_text (p ∷ ps) =
    ap (λ l. l ++ words_text (map spaced_for ps)) (word_for_text (list_any is_nul p.value) p refl)
    ∙ ap (λ l. pair_text p ++ l) (words_for_text ps)

words_for_valid : (ps : List Pair) → have_keys ps ≡ true → are_reply_words (map spaced_for ps) ≡ true
words_for_valid [] h = refl
words_for_valid (p ∷ ps) h =
    let both = and_parts (is_key p.key) (have_keys ps) h in
    and_from _ (are_reply_words (map spaced_for ps)) (word_for_valid (list_any is_nul p.value) p refl both.0)
    (words_for_valid ps both.1)

words_for_pairs : (ps : List Pair) → HaveBytes ps → words_pairs (map spaced_for ps) ≡ ps
words_for_pairs [] h = refl
words_for_pairs (p ∷ ps) h = rw (word_for_pairs (list_any is_nul p.value) p h.0, words_for_pairs ps h.1) refl

-- the line that is printed
abbrev line_for : Option ℕ → Reply → ReplyLine
line_for channel reply = record {
  channel = channel;
  result = reply.word;
  words = map spaced_for reply.pairs;
  spaces = 0;
  cr = false;
}

line_for_text : (channel : Option ℕ) (reply : Reply) → reply_text channel reply ≡ line_text (line_for channel reply)
unfolding reply_text
line_for_text channel reply =
    let front = channel_text channel ++ result_text reply.word in
    ap (λ l. front ++ l) (sym (words_for_text reply.pairs))
    ∙ sym (append-nil (front ++ words_text (map spaced_for reply.pairs))) ∙ sym (append-nil _)

-- what is printed reads as the same
pub printed_reads : (channel : Option ℕ) (reply : Reply) → IfSome channel (λ n. n < channel_limit)
    → have_keys reply.pairs ≡ true → HaveBytes reply.pairs
    → length (reply_text channel reply) ≤ reply_limit
    → reply_of (is_some channel) (reply_text channel reply) ≡ Some (channel, reply)
printed_reads channel reply n k h short =
    let text = line_for_text channel reply in
    let P : List ℕ → Type 0 = λ l. length l ≤ reply_limit in
    said_reads (is_some channel) (reply_text channel reply) (channel, reply)
    record {
      line = line_for channel reply;
      valid = record { channel = refl; number = n; words = words_for_valid reply.pairs k; size = subst P text short };
      text = text;
      means = ap (λ ps. (channel, record { word = reply.word; pairs = ps })) (sym (words_for_pairs reply.pairs h));
    }

pub again_from : {E : Type 0} (channel : Option ℕ) (reply : Reply) (result : Result (List ℕ) E)
    → have_keys reply.pairs ≡ true → IfSome channel (λ n. n < channel_limit)
    → IfOk result (λ t. t ≡ reply_text channel reply) → OnOk result (HaveBytes reply.pairs)
    → IfOk result (λ t. length t ≤ reply_limit → reply_of (is_some channel) t ≡ Some (channel, reply))
again_from channel reply (Err e) k n text h = tt
again_from channel reply (Ok t) k n text h =
    let P : List ℕ → Type 0 = λ l. length l ≤ reply_limit in
    λ (short : length t ≤ reply_limit). ap (reply_of (is_some channel)) text
    ∙ printed_reads channel reply n k h (subst P text short)
