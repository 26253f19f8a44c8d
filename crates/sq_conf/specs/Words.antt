-- Words without blanks.
use Rattle.std.specs.Prelude.{ℕ, List, Bool, not}
use Rattle.std.specs.List.{list_all, list_any}
use Rattle.sq_base.specs.Lines.{is_blank}
use Rattle.sq_base.specs.declared.config_lines.Line.{Line}

-- neither a space nor a tab stands in the word
abbrev pub is_bare : List ℕ → Bool
is_bare word = not (list_any is_blank word)

abbrev pub are_bare : List (List ℕ) → Bool
are_bare words = list_all is_bare words

abbrev pub is_bare_line : Line → Bool
is_bare_line l = are_bare l.words
