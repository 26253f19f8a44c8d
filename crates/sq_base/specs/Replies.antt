-- In the statement: docs/STATEMENT.md lists which definitions.
-- Reply lines and question lines of helper programs: how each is read and written. Squid's helper
-- protocol page, "Helper protocol", with its forms of key=value pairs and of quoted values.
use Rattle.std.specs.Prelude.{ℕ, zero, suc, ◌+◌, ◌^◌, List, [], ◌∷◌, ◌++◌, length, Bool, true, false, not, if◌then◌else◌, ◌&&◌, ◌||◌, ◌==◌, nat_le, Some, None, drop, take, codes, bytes_eq, decimal}
use Rattle.std.specs.List.{list_all, list_any, take_while, prefix_len, flat_map}
use Rattle.std.specs.Char.{is_ascii_alphanumeric}
use Rattle.std.specs.Option.{option_and_then, option_map}
use Rattle.std.specs.declared.option.Option.{Option}
use Rattle.sq_base.specs.Bytes.{nul, lf, cr, space, quote, dash, equals, backslash, underscore, letter_n, letter_r}
use Rattle.percent_encoding.specs.Percent.{percent_encode_byte, percent_decode}
use Rattle.sq_base.specs.Decimals.{number_of}
use Rattle.sq_base.specs.declared.helpers.Pair.{Pair}
use Rattle.sq_base.specs.declared.helpers.Reply.{Reply}
use Rattle.sq_base.specs.declared.helpers.Word.{Word}
use Rattle.sq_base.specs.declared.helpers.Word.TheVariants.{Yes, No, Broken}

-- a reply line has at most this many bytes, without its LF
abbrev pub reply_limit : ℕ
reply_limit = 65536

-- channels are below this
abbrev pub channel_limit : ℕ
channel_limit = 2 ^ 32

-- a byte of a reply line: neither NUL, LF nor CR
abbrev pub is_line_byte : ℕ → Bool
is_line_byte b = not (b == nul || b == lf || b == cr)

-- a byte of a bare word: not a space, `"` or `=` either
abbrev pub is_word_byte : ℕ → Bool
is_word_byte b = is_line_byte b && not (b == space || b == quote || b == equals)

-- a byte of a value without quotes: not a space
abbrev pub is_value_byte : ℕ → Bool
is_value_byte b = is_line_byte b && not (b == space)

-- a byte of a key: a letter, a digit, `_` or `-`
abbrev pub is_key_byte : ℕ → Bool
is_key_byte b = is_ascii_alphanumeric b || b == underscore || b == dash

-- the key of a pair: one such byte or more
abbrev pub is_key : List ℕ → Bool
is_key [] = false
is_key (b ∷ bs) = list_all is_key_byte (b ∷ bs)

-- a space, or the end
abbrev pub ends_word : List ℕ → Bool
ends_word [] = true
ends_word (b ∷ bs) = b == space

-- the byte for which a `\` and this byte stand
abbrev pub meant : ℕ → ℕ
meant b = if b == letter_r then cr else (if b == letter_n then lf else b)

-- how many bytes stand before the closing quote; `after` says that a `\` stands right before
unfoldable pub quoted_len : Bool → List ℕ → Option ℕ
quoted_len after [] = None
quoted_len after (b ∷ bs) =
    if not after && b == quote then Some 0
    else (if is_line_byte b then option_map (λ n. n + 1)
    (quoted_len (not after && b == backslash) bs) else None)

-- the bytes for which those between quotes stand; `after` says that a `\` stands right before
unfoldable pub unquoted : Bool → List ℕ → List ℕ
unquoted after [] = []
unquoted true (b ∷ bs) = meant b ∷ unquoted false bs
unquoted false (b ∷ bs) = if b == backslash then unquoted true bs else b ∷ unquoted false bs

-- the pairs of one word, and what stands behind it
abbrev pub PairsFound : Type 0
PairsFound = List Pair × List ℕ

-- a pair, if its word ends here
abbrev pub pair_before : List ℕ → List ℕ → List ℕ → Option PairsFound
pair_before key value rest = if ends_word rest then Some
    (record { key = key; value = value } ∷ [], rest) else None

-- a pair with this many bytes in quotes
abbrev pub quoted_in : List ℕ → List ℕ → Option ℕ → Option PairsFound
quoted_in key bytes None = None
quoted_in key bytes (Some n) = pair_before key (unquoted false (take n bytes)) (drop (n + 1) bytes)

-- a pair with a value without quotes
abbrev pub plain_in : List ℕ → List ℕ → Option PairsFound
plain_in key bytes = pair_before key (percent_decode (take_while is_value_byte bytes))
    (drop (prefix_len is_value_byte bytes) bytes)

-- a pair whose value begins here
unfoldable pub value_in : List ℕ → List ℕ → Option PairsFound
value_in key [] = plain_in key []
value_in key (b ∷ bs) = if b == quote then quoted_in key bs (quoted_len false bs)
    else plain_in key (b ∷ bs)

-- behind the first bytes of a word: its end, and so it was bare, or `=` and a value
abbrev pub after_name : List ℕ → List ℕ → Option PairsFound
after_name name [] = Some ([], [])
after_name name (b ∷ bs) =
    if b == space then Some ([], b ∷ bs)
    else (if b == equals && is_key name then value_in name bs else None)

-- a word
unfoldable pub reply_word_in : List ℕ → Option PairsFound
reply_word_in bytes = after_name (take_while is_word_byte bytes)
    (drop (prefix_len is_word_byte bytes) bytes)

-- these pairs, in front of more
abbrev pub in_front : List Pair → Option (List Pair) → Option (List Pair)
in_front pairs more = option_map (λ others. pairs ++ others) more

-- a space, or a word
abbrev pub piece_in : List ℕ → Option PairsFound
piece_in [] = None
piece_in (b ∷ bs) = if b == space then Some ([], bs) else reply_word_in (b ∷ bs)

-- the pairs of words and spaces; there are no more words and spaces than `most`
unfoldable pub pairs_in : ℕ → List ℕ → Option (List Pair)
pairs_in most [] = Some []
pairs_in zero (b ∷ bs) = None
pairs_in (suc most) (b ∷ bs) = option_and_then (λ w. in_front w.0 (pairs_in most w.1))
    (piece_in (b ∷ bs))

-- the pairs of all words of these bytes
abbrev pub pairs_of : List ℕ → Option (List Pair)
pairs_of bytes = pairs_in (length bytes) bytes

-- the result with this name
abbrev pub result_of : List ℕ → Option Word
result_of name =
    if bytes_eq name (codes "OK") then Some Yes
    else (if bytes_eq name (codes "ERR") then Some No
    else (if bytes_eq name (codes "BH") then Some Broken else None))

-- a reply with these pairs
abbrev pub with_pairs : Word → Option (List Pair) → Option Reply
with_pairs word pairs = option_map (λ ps. record { word = word; pairs = ps }) pairs

-- behind a result: its end, and words
abbrev pub after_result : Option Word → List ℕ → Option Reply
after_result None bytes = None
after_result (Some word) bytes = if ends_word bytes then with_pairs word (pairs_of bytes) else None

-- a result and its words
unfoldable pub result_in : List ℕ → Option Reply
result_in bytes = after_result (result_of (take_while is_word_byte bytes))
    (drop (prefix_len is_word_byte bytes) bytes)

-- a channel's number, and a reply
abbrev pub Answer : Type 0
Answer = Option ℕ × Reply

-- a reply with its channel
abbrev pub on_channel : Option ℕ → Option Reply → Option Answer
on_channel channel reply = option_map (λ r. (channel, r)) reply

-- behind a channel: one space and a result
abbrev pub after_channel : Option ℕ → List ℕ → Option Answer
after_channel None bytes = None
after_channel (Some n) [] = None
after_channel (Some n) (b ∷ bs) = if b == space then on_channel (Some n) (result_in bs) else None

-- a line without its size and its CR, with a channel or without
unfoldable pub reply_line_in : Bool → List ℕ → Option Answer
reply_line_in false bytes = on_channel None (result_in bytes)
reply_line_in true bytes =
    after_channel (number_of channel_limit (take_while is_word_byte bytes))
    (drop (prefix_len is_word_byte bytes) bytes)

-- a line without the CR at its end, where there is one
unfoldable pub without_last_cr : List ℕ → List ℕ
without_last_cr [] = []
without_last_cr (b ∷ []) = if b == cr then [] else b ∷ []
without_last_cr (b ∷ c ∷ bs) = b ∷ without_last_cr (c ∷ bs)

-- the channel and the reply of a line without its LF
unfoldable pub reply_of : Bool → List ℕ → Option Answer
reply_of with_channel line = if nat_le (length line) reply_limit then reply_line_in with_channel
    (without_last_cr line) else None

-- a channel and a space, or nothing
abbrev pub channel_text : Option ℕ → List ℕ
channel_text None = []
channel_text (Some n) = decimal n ++ codes " "

abbrev pub result_text : Word → List ℕ
result_text Yes = codes "OK"
result_text No = codes "ERR"
result_text Broken = codes "BH"

-- a byte between quotes
abbrev pub quoted_byte : ℕ → List ℕ
quoted_byte b =
    if b == cr then codes "\\r"
    else (if b == lf then codes "\\n"
    else (if b == quote || b == backslash then backslash ∷ b ∷ [] else b ∷ []))

-- a value: in quotes, or, where it holds NUL, without them and with each byte escaped
unfoldable pub value_text : List ℕ → List ℕ
value_text value =
    if list_any (λ b. b == 0) value then flat_map percent_encode_byte value
    else codes "\"" ++ flat_map quoted_byte value ++ codes "\""

-- a pair behind a space
abbrev pub pair_text : Pair → List ℕ
pair_text p = codes " " ++ p.key ++ codes "=" ++ value_text p.value

-- a reply line without its LF
unfoldable pub reply_text : Option ℕ → Reply → List ℕ
reply_text channel reply = channel_text channel ++ result_text reply.word
    ++ flat_map pair_text reply.pairs

-- a question line with its LF
unfoldable pub question_text : Option ℕ → List ℕ → List ℕ
question_text channel key = channel_text channel ++ key ++ codes "\n"

-- each pair's key can be written
abbrev pub have_keys : List Pair → Bool
have_keys pairs = list_all (λ p. is_key p.key) pairs
