-- In the statement: docs/STATEMENT.md lists which definitions.
-- A line as words with one space between them.
use Rattle.std.specs.Prelude.{ℕ, List, [], ◌∷◌, ◌++◌, Bool, ◌==◌, Some, None}
use Rattle.std.specs.List.{slice_split, join_with_byte}
use Rattle.std.specs.Borrow.{Bor}
use Rattle.std.specs.declared.option.Option.{Option}
use Rattle.sq_base.specs.Bytes.{space}
use Rattle.sq_rules.specs.Steps.{WordList}

-- a space
abbrev pub is_space : ℕ → Bool
is_space b = b == space

-- the words of a line
unfoldable pub spaced_words : List ℕ → WordList
spaced_words line = slice_split is_space line

-- the words of what is left of a line
abbrev pub words_left : Option (Bor (List ℕ)) → WordList
words_left None = []
words_left (Some rest) = spaced_words rest.now

-- the line of some words
abbrev pub line_of : WordList → List ℕ
line_of ws = join_with_byte space ws

-- each word after a space
abbrev pub after_spaces : WordList → List ℕ
after_spaces [] = []
after_spaces (w ∷ ws) = space ∷ (w ++ after_spaces ws)
