-- In the statement: docs/STATEMENT.md lists which definitions.
-- Escaped words: how a text of any bytes stands as one word of a journal or script line.
use Rattle.std.specs.Prelude.{ℕ, Bool, ◌||◌, ◌==◌, nat_le, List, [], ◌∷◌, if◌then◌else◌, Some, None, codes, bytes_eq}
use Rattle.std.specs.List.{flat_map}
use Rattle.std.specs.declared.option.Option.{Option}
use Rattle.sq_base.specs.Bytes.{space, percent, greater, delete}
use Rattle.percent_encoding.specs.Percent.{percent_encode_byte, percent_decode}

-- a byte that is no visible ASCII, and `%` and `>`
abbrev pub is_escaped : ℕ → Bool
is_escaped b = nat_le b space || nat_le delete b || b == percent || b == greater

-- each such byte becomes `%` and two upper-case hexadecimal digits
abbrev pub escaped_byte : ℕ → List ℕ
escaped_byte b = if is_escaped b then percent_encode_byte b else b ∷ []

-- a text as one word: each byte in its escaped form
unfoldable pub escaped : List ℕ → List ℕ
escaped bytes = flat_map escaped_byte bytes

-- the word of a text: `-` for the empty one, and `%2D` for the text `-`
unfoldable pub text_word : List ℕ → List ℕ
text_word [] = codes "-"
text_word (b ∷ bs) = if bytes_eq (b ∷ bs) (codes "-") then codes "%2D" else escaped (b ∷ bs)

-- what the word stands for, if it is the word of a text
abbrev pub unescaped : List ℕ → List ℕ
unescaped word = if bytes_eq word (codes "-") then [] else percent_decode word

-- the text whose word this is
unfoldable pub text_of : List ℕ → Option (List ℕ)
text_of word = if bytes_eq word (text_word (unescaped word)) then Some (unescaped word) else None
