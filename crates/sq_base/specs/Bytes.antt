-- In the statement: docs/STATEMENT.md lists which definitions.
-- Bytes of ASCII by name.
use Rattle.std.specs.Prelude.{ℕ}

-- the byte 0
abbrev pub nul : ℕ
nul = 0

-- the horizontal tab
abbrev pub tab : ℕ
tab = 9

-- the end of a line
abbrev pub lf : ℕ
lf = 10

-- what may stand before it
abbrev pub cr : ℕ
cr = 13

-- the blank
abbrev pub space : ℕ
space = 32

-- `!`
abbrev pub bang : ℕ
bang = 33

-- `"`
abbrev pub quote : ℕ
quote = 34

-- `#`
abbrev pub hash : ℕ
hash = 35

-- `%`
abbrev pub percent : ℕ
percent = 37

-- `+`
abbrev pub plus : ℕ
plus = 43

-- `-`
abbrev pub dash : ℕ
dash = 45

-- `.`
abbrev pub dot : ℕ
dot = 46

-- `/`
abbrev pub slash : ℕ
slash = 47

-- `0`
abbrev pub digit_zero : ℕ
digit_zero = 48

-- `:`
abbrev pub colon : ℕ
colon = 58

-- `=`
abbrev pub equals : ℕ
equals = 61

-- `>`
abbrev pub greater : ℕ
greater = 62

-- `?`
abbrev pub question : ℕ
question = 63

-- `[`
abbrev pub open_bracket : ℕ
open_bracket = 91

-- `\`
abbrev pub backslash : ℕ
backslash = 92

-- `]`
abbrev pub close_bracket : ℕ
close_bracket = 93

-- `_`
abbrev pub underscore : ℕ
underscore = 95

-- `n`
abbrev pub letter_n : ℕ
letter_n = 110

-- `r`
abbrev pub letter_r : ℕ
letter_r = 114

-- `}`
abbrev pub close_brace : ℕ
close_brace = 125

-- the control byte 127
abbrev pub delete : ℕ
delete = 127
