-- In the statement: docs/STATEMENT.md lists which definitions.
-- Texts as lists of bytes.
use Rattle.std.specs.Prelude.{ℕ, List, [], ◌∷◌, ◌++◌, ◌/◌, ◌%◌, ◌<◌, All, false, if◌then◌else◌, codes, flat_map}
use Rattle.std.specs.Char.{is_ascii_graphic}
use Rattle.std.specs.Fmt.{digit_glyph}

-- each number of the list is a byte
abbrev pub AreBytes : List ℕ → Type 0
AreBytes bytes = All (λ b. b < 256) bytes

-- a byte as it is printed: visible ASCII as it is, any other as `\x` and two lower-case hexadecimal
-- digits
abbrev pub shown_byte : ℕ → List ℕ
shown_byte b = if is_ascii_graphic b then b ∷ [] else codes "\\x"
    ++ (digit_glyph false (b / 16) ∷ digit_glyph false (b % 16) ∷ [])

-- a text as it is printed, byte after byte
abbrev pub shown : List ℕ → List ℕ
shown bytes = flat_map shown_byte bytes
