-- The line before a chunk, a byte at a time: RFC 9112 sections 7.1 and 7.1.1, with at most 16
-- digits, blanks behind them, and no LF but the last byte, as the grammar of `httparse` has it.
use Rattle.std.specs.Prelude.{ℕ, ◌+◌, ◌*◌, List, [], ◌∷◌, if◌then◌else◌, ◌==◌, ◌||◌, nat_lt}
use Rattle.std.specs.Char.{is_ascii_hexdigit, digit_value}

-- what the bytes so far are: nothing; digits, so many and with this value; blanks behind them; an
-- extension; all but the LF; a whole line; or no line, whatever follows
pub data LineSoFar : Type 0 where
  Start : LineSoFar
  Digits : ℕ → ℕ → LineSoFar
  Blank : ℕ → LineSoFar
  Extension : ℕ → LineSoFar
  Closing : ℕ → LineSoFar
  Whole : ℕ → LineSoFar
  Never : LineSoFar

-- behind the digits and blanks
abbrev pub after_size : ℕ → ℕ → LineSoFar
after_size size b =
    if b == 32 || b == 9 then Blank size else if b == 59 then Extension size else if b
    == 13 then Closing size else Never

-- in the digits, behind so many of them: a 17th is refused
abbrev pub in_digits : ℕ → ℕ → ℕ → LineSoFar
in_digits count size b =
    if is_ascii_hexdigit b then
    (if nat_lt count 16 then Digits (count + 1) (size * 16 + digit_value b) else Never)
    else after_size size b

-- the line with one byte more
abbrev pub chunk_line_step : LineSoFar → ℕ → LineSoFar
chunk_line_step Start b = if is_ascii_hexdigit b then Digits 1 (digit_value b) else Never
chunk_line_step (Digits count size) b = in_digits count size b
chunk_line_step (Blank size) b = after_size size b
chunk_line_step (Extension size) b = if b == 13 then Closing size else if b == 10 then Never
    else Extension size
chunk_line_step (Closing size) b = if b == 10 then Whole size else Never
chunk_line_step (Whole size) b = Never
chunk_line_step Never b = Never

-- the line with these bytes more
unfoldable pub chunk_line_walk : LineSoFar → List ℕ → LineSoFar
chunk_line_walk l [] = l
chunk_line_walk l (b ∷ bs) = chunk_line_walk (chunk_line_step l b) bs

-- what these bytes are
abbrev pub chunk_line_of : List ℕ → LineSoFar
chunk_line_of text = chunk_line_walk Start text
