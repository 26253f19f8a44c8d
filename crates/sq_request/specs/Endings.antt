-- Where the head of a message ends: RFC 9112 section 2.1, with lines that end in LF alone and empty
-- lines in front of the head allowed, as its section 2.2 does.
use Rattle.std.specs.Prelude.{◌≡◌, ℕ, ◌+◌, List, [], ◌∷◌, length, Bool, true, false, ◌==◌, take, drop, position, sum_by, Some}
use Rattle.std.specs.List.{prefix_len}
use Rattle.std.specs.Option.{option_map}
use Rattle.std.specs.declared.option.Option.{Option}
use Rattle.sq_base.specs.Bytes.{cr}
use Rattle.sq_base.specs.Lines.{ended_lines}

-- a line without its LF that has no byte but one CR at most
abbrev pub is_empty_line : List ℕ → Bool
is_empty_line [] = true
is_empty_line (b ∷ []) = b == cr
is_empty_line (b ∷ c ∷ bs) = false

-- the bytes of lines, each with its LF
abbrev pub bytes_of : List (List ℕ) → ℕ
bytes_of lines = sum_by (λ line. length line + 1) lines

-- the empty lines at the front
abbrev pub empty_front : List (List ℕ) → ℕ
empty_front lines = prefix_len is_empty_line lines

-- how many lines there are up to the first empty one that follows a line with bytes, that one
-- included
abbrev pub head_lines : List (List ℕ) → Option ℕ
head_lines lines = option_map (λ n. empty_front lines + n + 1)
    (position is_empty_line (drop (empty_front lines) lines))

-- the place after the first empty line that follows a line with bytes
unfoldable pub head_end : List ℕ → Option ℕ
head_end bytes = option_map (λ n. bytes_of (take n (ended_lines bytes)))
    (head_lines (ended_lines bytes))

-- the bytes end where a head at their front ends
abbrev pub IsWholeHead : List ℕ → Type 0
IsWholeHead bytes = head_end bytes ≡ Some (length bytes)
