-- What the grammar spells is read.
use Rattle.std.proofs.Common.{◌≡◌, ℕ, zero, suc, ◌+◌, ◌<◌, ◌^◌, ◌++◌, List, [], ◌∷◌, length, drop, true, false, not, ◌==◌, Some, None, is_some, IfSome, map, replicate, refl, sym, ap, ◌∙◌, arith, append_assoc, append-nil, decimal}
use Rattle.std.proofs.Math.Seq.{take-append_seam, drop-append-add}
use Rattle.std.proofs.lemmas.Bool.{and_parts, not-true}
use Rattle.std.proofs.lemmas.Bool.Decides.{nat_tests}
use Rattle.std.specs.List.{list_all, prefix_len, take_while}
use Rattle.std.specs.declared.option.Option.{Option}
use Rattle.percent_encoding.specs.Percent.{percent_decode}
use Rattle.sq_base.proofs.NumberLaws.{number_again}
use Rattle.sq_base.specs.declared.helpers.Pair.{Pair}
use Rattle.sq_base.specs.declared.helpers.Reply.{Reply}
use Rattle.sq_base.specs.declared.helpers.Word.{Word}
use Rattle.sq_base.specs.declared.helpers.Word.TheVariants.{Yes, No, Broken}
use Rattle.sq_base.specs.Decimals.{number_of}
use Rattle.sq_base.specs.Replies.{channel_limit, is_word_byte, is_value_byte, is_key, ends_word, unquoted, pair_before, quoted_in, plain_in, value_in, after_name, reply_word_in, piece_in, pairs_of, in_front, result_of, after_result, result_in, on_channel, after_channel, reply_line_in, channel_text, result_text}
use Rattle.sq_base.specs.ReplyGrammar.{Mark, ReplyWord, Bare, Plain, Quoted, SpacedWord, mark_byte, is_mark, word_text, word_pairs, is_bare, is_plain_value, is_reply_word, words_text, words_pairs, are_reply_words}
use Rattle.sq_reply.proofs.ByteLaws.{stops, cut_front, cut_back, key_bytes, end_stops, number_bytes, word_no_space}
use Rattle.sq_reply.proofs.MarkLaws.{marks_text, marks_unquoted, marks_len}
use Rattle.sq_reply.proofs.WordLaws.{pairs_end, pairs_next, in_front_nil}

-- a pair whose word ends there
pair_ends : (key value rest : List ℕ) → ends_word rest ≡ true
    → pair_before key value rest ≡ Some (record { key = key; value = value } ∷ [], rest)
pair_ends key value rest h = rw h refl

space_no_quote : (c : ℕ) → (c == 32) ≡ true → (c == 34) ≡ false
space_no_quote c e = grind (arith, nat_tests)

-- a value without quotes
value_plain : (key value rest : List ℕ) → is_plain_value value ≡ true → ends_word rest ≡ true
    → value_in key (value ++ rest) ≡ plain_in key (value ++ rest)
unfolding value_in
value_plain key [] [] h e = refl
value_plain key [] (c ∷ cs) h e = rw (space_no_quote c e) refl
value_plain key (b ∷ bs) rest h e = let both = and_parts (not (b == 34)) _ h in rw (not-true (b == 34) both.0) refl

pub plain_bytes : (value : List ℕ) → is_plain_value value ≡ true → list_all is_value_byte value ≡ true
plain_bytes [] h = refl
plain_bytes (b ∷ bs) h = (and_parts (not (b == 34)) (list_all is_value_byte (b ∷ bs)) h).1

plain_reads : (key value rest : List ℕ) → is_plain_value value ≡ true → ends_word rest ≡ true
    → value_in key (value ++ rest) ≡ Some (record { key = key; value = percent_decode value } ∷ [], rest)
plain_reads key value rest h e =
    let bytes = plain_bytes value h in
    let end = end_stops is_value_byte rest refl e in
    value_plain key value rest h e
    ∙ ap (λ v. pair_before key (percent_decode v) (drop (prefix_len is_value_byte (value ++ rest)) (value ++ rest)))
    (cut_front is_value_byte value rest bytes end)
    ∙ ap (λ r. pair_before key (percent_decode value) r) (cut_back is_value_byte value rest bytes end)
    ∙ pair_ends key (percent_decode value) rest e

quoted_reads : (key rest : List ℕ) (marks : List Mark) → list_all is_mark marks ≡ true → ends_word rest ≡ true
    → value_in key (34 ∷ (marks_text marks ++ 34 ∷ rest))
    ≡ Some (record { key = key; value = map mark_byte marks } ∷ [], rest)
unfolding value_in
quoted_reads key rest marks h e =
    let m = marks_text marks in
    ap (λ n. quoted_in key (m ++ 34 ∷ rest) n) (marks_len marks rest h)
    ∙ ap (λ v. pair_before key (unquoted false v) (drop (length m + 1) (m ++ 34 ∷ rest)))
    (take-append_seam m (34 ∷ rest))
    ∙ ap (λ v. pair_before key v (drop (length m + 1) (m ++ 34 ∷ rest))) (marks_unquoted marks h)
    ∙ ap (λ r. pair_before key (map mark_byte marks) r) (drop-append-add m (34 ∷ rest) 1)
    ∙ pair_ends key (map mark_byte marks) rest e

word_reads : (name rest : List ℕ) → list_all is_word_byte name ≡ true → stops is_word_byte rest ≡ true
    → reply_word_in (name ++ rest) ≡ after_name name rest
unfolding reply_word_in
word_reads name rest h k =
    ap (λ n. after_name n (drop (prefix_len is_word_byte (name ++ rest)) (name ++ rest)))
    (cut_front is_word_byte name rest h k)
    ∙ ap (λ r. after_name name r) (cut_back is_word_byte name rest h k)

bare_ends : (name rest : List ℕ) → ends_word rest ≡ true → after_name name rest ≡ Some ([], rest)
bare_ends name [] e = refl
bare_ends name (c ∷ cs) e = rw e refl

after_key : (key value : List ℕ) → is_key key ≡ true → after_name key (61 ∷ value) ≡ value_in key value
after_key key value h = rw h refl

-- where a byte of a word stands first, the piece is a word
piece_word : (bytes more : List ℕ) → is_bare bytes ≡ true → piece_in (bytes ++ more) ≡ reply_word_in (bytes ++ more)
piece_word [] more h = absurd (cc)
piece_word (b ∷ bs) more h = let both = and_parts (is_word_byte b) _ h in rw (word_no_space b both.0) refl

key_is_bare : (key : List ℕ) → is_key key ≡ true → is_bare key ≡ true
key_is_bare [] h = absurd (cc)
key_is_bare (b ∷ bs) h = key_bytes (b ∷ bs) h

pub bare_bytes : (name : List ℕ) → is_bare name ≡ true → list_all is_word_byte name ≡ true
bare_bytes [] h = refl
bare_bytes (b ∷ bs) h = h

pair_piece : (key value : List ℕ) → is_key key ≡ true → piece_in (key ++ 61 ∷ value) ≡ value_in key value
pair_piece key value h =
    piece_word key (61 ∷ value) (key_is_bare key h) ∙ word_reads key (61 ∷ value) (key_bytes key h) refl
    ∙ after_key key value h

plain_text : (key value rest : List ℕ) → (key ++ 61 ∷ [] ++ value) ++ rest ≡ key ++ 61 ∷ (value ++ rest)
plain_text key value rest = simp append_assoc

quoted_text : (key m rest : List ℕ)
    → (key ++ 61 ∷ [] ++ 34 ∷ [] ++ m ++ 34 ∷ []) ++ rest ≡ key ++ 61 ∷ 34 ∷ (m ++ 34 ∷ rest)
quoted_text key m rest = simp append_assoc

-- a word is read as one
piece_reads : (word : ReplyWord) (rest : List ℕ) → is_reply_word word ≡ true → ends_word rest ≡ true
    → piece_in (word_text word ++ rest) ≡ Some (word_pairs word, rest)
piece_reads (Bare name) rest h e =
    piece_word name rest h ∙ word_reads name rest (bare_bytes name h) (end_stops is_word_byte rest refl e)
    ∙ bare_ends name rest e
piece_reads (Plain key value) rest h e =
    let both = and_parts (is_key key) (is_plain_value value) h in
    ap piece_in (plain_text key value rest) ∙ pair_piece key (value ++ rest) both.0
    ∙ plain_reads key value rest both.1 e
piece_reads (Quoted key marks) rest h e =
    let both = and_parts (is_key key) (list_all is_mark marks) h in
    ap piece_in (quoted_text key (marks_text marks) rest) ∙ pair_piece key (34 ∷ (marks_text marks ++ 34 ∷ rest)) both.0
    ∙ quoted_reads key rest marks both.1 e

space_reads : (bytes : List ℕ) → pairs_of (32 ∷ bytes) ≡ pairs_of bytes
space_reads bytes = pairs_next (32 ∷ bytes) ([], bytes) refl ∙ in_front_nil (pairs_of bytes)

spaces_read : (n : ℕ) (bytes : List ℕ) → pairs_of (replicate n 32 ++ bytes) ≡ pairs_of bytes
spaces_read zero bytes = refl
spaces_read (suc n) bytes = space_reads (replicate n 32 ++ bytes) ∙ spaces_read n bytes

-- words and spaces, up to the CR
abbrev pub tail_text : List SpacedWord → ℕ → List ℕ
tail_text words n = words_text words ++ replicate n 32

pub tail_ends : (words : List SpacedWord) (n : ℕ) → ends_word (tail_text words n) ≡ true
tail_ends [] zero = refl
tail_ends [] (suc n) = refl
tail_ends (s ∷ words) n = refl

tail_more : (more n : ℕ) (word : List ℕ) (words : List SpacedWord)
    → (32 ∷ [] ++ replicate more 32 ++ word) ++ words_text words ++ replicate n 32 ≡ 32
    ∷ (replicate more 32 ++ (word ++ tail_text words n))
tail_more more n word words = simp append_assoc

pub tail_reads : (words : List SpacedWord) (n : ℕ) → are_reply_words words ≡ true
    → pairs_of (tail_text words n) ≡ Some (words_pairs words)
tail_reads [] n h = ap pairs_of (sym (append-nil (replicate n 32))) ∙ spaces_read n [] ∙ pairs_end [] refl
tail_reads (s ∷ words) n h =
    let both = and_parts (is_reply_word s.word) (are_reply_words words) h in
    let rest = tail_text words n in
    ap pairs_of (tail_more s.more n (word_text s.word) words)
    ∙ space_reads (replicate s.more 32 ++ (word_text s.word ++ rest))
    ∙ spaces_read s.more (word_text s.word ++ rest)
    ∙ pairs_next (word_text s.word ++ rest) (word_pairs s.word, rest)
    (piece_reads s.word rest both.0 (tail_ends words n))
    ∙ ap (in_front (word_pairs s.word)) (tail_reads words n both.1)

result_bytes : (r : Word) → list_all is_word_byte (result_text r) ≡ true
result_bytes Yes = refl
result_bytes No = refl
result_bytes Broken = refl

result_again : (r : Word) → result_of (result_text r) ≡ Some r
result_again Yes = refl
result_again No = refl
result_again Broken = refl

result_ends : (r : Word) (tail : List ℕ) (ps : List Pair) → ends_word tail ≡ true → pairs_of tail ≡ Some ps
    → after_result (Some r) tail ≡ Some (record { word = r; pairs = ps })
result_ends r tail ps e h = rw (e, h) refl

pub result_reads : (r : Word) (tail : List ℕ) (ps : List Pair) → ends_word tail ≡ true → pairs_of tail ≡ Some ps
    → result_in (result_text r ++ tail) ≡ Some (record { word = r; pairs = ps })
unfolding result_in
result_reads r tail ps e h =
    let name = result_text r in
    let end = end_stops is_word_byte tail refl e in
    ap (λ n. after_result (result_of n) (drop (prefix_len is_word_byte (name ++ tail)) (name ++ tail)))
    (cut_front is_word_byte name tail (result_bytes r) end)
    ∙ ap (λ t. after_result (result_of name) t) (cut_back is_word_byte name tail (result_bytes r) end)
    ∙ ap (λ w. after_result w tail) (result_again r)
    ∙ result_ends r tail ps e h

channel_regroup : (n : ℕ) (bytes : List ℕ) → (decimal n ++ 32 ∷ []) ++ bytes ≡ decimal n ++ 32 ∷ bytes
channel_regroup n bytes = simp append_assoc

-- a channel and a result
pub channel_reads : (channel : Option ℕ) (bytes : List ℕ) (reply : Reply) → IfSome channel (λ n. n < channel_limit)
    → result_in bytes ≡ Some reply
    → reply_line_in (is_some channel) (channel_text channel ++ bytes) ≡ Some (channel, reply)
unfolding reply_line_in
channel_reads None bytes reply h e = ap (on_channel None) e
channel_reads (Some n) bytes reply h e =
    let small : n < 2 ^ 64 = omega arith in
    let name = decimal n in
    let rest = 32 ∷ bytes in
    let digits = number_bytes n small in
    ap (λ (l : List ℕ). after_channel (number_of channel_limit (take_while is_word_byte l))
    (drop (prefix_len is_word_byte l) l)) (channel_regroup n bytes)
    ∙ ap (λ w. after_channel (number_of channel_limit w) (drop (prefix_len is_word_byte (name ++ rest)) (name ++ rest)))
    (cut_front is_word_byte name rest digits refl)
    ∙ ap (λ r. after_channel (number_of channel_limit name) r) (cut_back is_word_byte name rest digits refl)
    ∙ ap (λ c. after_channel c rest) (number_again channel_limit n h (omega arith))
    ∙ ap (on_channel (Some n)) e
