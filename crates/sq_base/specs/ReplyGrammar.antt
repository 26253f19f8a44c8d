-- The grammar of reply lines, as trees with their texts and their meanings, apart from how a line
-- is read. Squid's helper protocol page, "Helper protocol".
use Rattle.std.specs.Prelude.{◌≡◌, ℕ, ◌<◌, ◌≤◌, List, [], ◌∷◌, ◌++◌, length, Bool, true, false, not, if◌then◌else◌, ◌&&◌, ◌||◌, ◌==◌, IfSome, codes, is_some, map, replicate}
use Rattle.std.specs.List.{list_all, flat_map}
use Rattle.std.specs.declared.option.Option.{Option}
use Rattle.sq_base.specs.Bytes.{cr, space, quote, backslash}
use Rattle.percent_encoding.specs.Percent.{percent_decode}
use Rattle.sq_base.specs.Replies.{reply_limit, channel_limit, is_line_byte, is_word_byte, is_value_byte, is_key, meant, channel_text, result_text, Answer}
use Rattle.sq_base.specs.declared.helpers.Pair.{Pair}
use Rattle.sq_base.specs.declared.helpers.Word.{Word}

-- a byte between quotes: as itself, or behind a `\`
pub data Mark : Type 0 where
  Itself : ℕ → Mark
  Escaped : ℕ → Mark

-- a word: a bare one, or a key and a value without quotes or in quotes
pub data ReplyWord : Type 0 where
  Bare : List ℕ → ReplyWord
  Plain : List ℕ → List ℕ → ReplyWord
  Quoted : List ℕ → List Mark → ReplyWord

-- a word behind one space and this many more
pub record SpacedWord : Type 0 where
  pub more : ℕ
  pub word : ReplyWord

-- a line: a channel or none, a result, words, spaces, and maybe a CR
pub record ReplyLine : Type 0 where
  pub channel : Option ℕ
  pub result : Word
  pub words : List SpacedWord
  pub spaces : ℕ
  pub cr : Bool

abbrev pub mark_text : Mark → List ℕ
mark_text (Itself b) = b ∷ []
mark_text (Escaped b) = backslash ∷ b ∷ []

abbrev pub mark_byte : Mark → ℕ
mark_byte (Itself b) = b
mark_byte (Escaped b) = meant b

-- no bare `"` or `\` stands between quotes
abbrev pub is_mark : Mark → Bool
is_mark (Itself b) = is_line_byte b && not (b == quote || b == backslash)
is_mark (Escaped b) = is_line_byte b

abbrev pub word_text : ReplyWord → List ℕ
word_text (Bare word) = word
word_text (Plain key value) = key ++ codes "=" ++ value
word_text (Quoted key marks) = key ++ codes "=" ++ codes "\"" ++ flat_map mark_text marks
    ++ codes "\""

-- a bare word stands for nothing, a value without quotes is percent-decoded
abbrev pub word_pairs : ReplyWord → List Pair
word_pairs (Bare word) = []
word_pairs (Plain key value) = record { key = key; value = percent_decode value } ∷ []
word_pairs (Quoted key marks) = record { key = key; value = map mark_byte marks } ∷ []

-- at least one byte of a bare word
abbrev pub is_bare : List ℕ → Bool
is_bare [] = false
is_bare (b ∷ bs) = list_all is_word_byte (b ∷ bs)

-- bytes without a space, the first of which is no `"`
abbrev pub is_plain_value : List ℕ → Bool
is_plain_value [] = true
is_plain_value (b ∷ bs) = not (b == quote) && list_all is_value_byte (b ∷ bs)

abbrev pub is_reply_word : ReplyWord → Bool
is_reply_word (Bare word) = is_bare word
is_reply_word (Plain key value) = is_key key && is_plain_value value
is_reply_word (Quoted key marks) = is_key key && list_all is_mark marks

abbrev pub spaced_text : SpacedWord → List ℕ
spaced_text s = codes " " ++ replicate s.more space ++ word_text s.word

abbrev pub words_text : List SpacedWord → List ℕ
words_text words = flat_map spaced_text words

abbrev pub words_pairs : List SpacedWord → List Pair
words_pairs words = flat_map (λ s. word_pairs s.word) words

abbrev pub are_reply_words : List SpacedWord → Bool
are_reply_words words = list_all (λ s. is_reply_word s.word) words

abbrev pub cr_text : Bool → List ℕ
cr_text ends = if ends then cr ∷ [] else []

-- the bytes of a line without its LF
abbrev pub line_text : ReplyLine → List ℕ
line_text l = channel_text l.channel ++ result_text l.result ++ words_text l.words
    ++ replicate l.spaces space ++ cr_text l.cr

-- what a line says
abbrev pub line_answer : ReplyLine → Answer
line_answer l = (l.channel, record { word = l.result; pairs = words_pairs l.words })

-- a line of the grammar, with a channel or without
pub record IsReplyLine (with_channel : Bool) (l : ReplyLine) : Type 0 where
  pub channel : is_some l.channel ≡ with_channel
  pub number : IfSome l.channel (λ n. n < channel_limit)
  pub words : are_reply_words l.words ≡ true
  pub size : length (line_text l) ≤ reply_limit

-- the bytes are a line of the grammar that says this
pub record Says (with_channel : Bool) (bytes : List ℕ) (answer : Answer) : Type 0 where
  pub line : ReplyLine
  pub valid : IsReplyLine with_channel line
  pub text : bytes ≡ line_text line
  pub means : answer ≡ line_answer line
