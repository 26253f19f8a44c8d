-- In the statement: docs/STATEMENT.md lists which definitions.
-- Lines of a configuration file and their words, as Squid's configuration reference lays squid.conf
-- out: `#` begins a comment, and a `\` at a line's end joins the next line to it.
use Rattle.std.specs.Prelude.{ℕ, ◌+◌, ◌-◌, List, [], ◌∷◌, ◌++◌, length, Bool, true, false, not, if◌then◌else◌, ◌&&◌, ◌||◌, ◌==◌, nat_lt, Some, None, take, take_while, filter, slice_get}
use Rattle.std.specs.List.{slice_split}
use Rattle.std.specs.Str.{is_utf8}
use Rattle.std.specs.declared.option.Option.{Option}
use Rattle.sq_base.specs.Bytes.{tab, lf, cr, space, hash, backslash}
use Rattle.sq_base.specs.declared.config_lines.Line.{Line}
use Rattle.sq_base.specs.declared.config_lines.LineFault.{LineFault}
use Rattle.sq_base.specs.declared.config_lines.LineFault.TheVariants as faults
use Rattle.sq_base.specs.declared.config_lines.Lexed.{Lexed}

-- whether the byte is LF
abbrev pub is_lf : ℕ → Bool
is_lf b = b == lf

-- the lines that LF ends: all that LFs part but the last, which no LF ends
abbrev pub ended_lines : List ℕ → List (List ℕ)
ended_lines bytes = take (length (slice_split is_lf bytes) - 1) (slice_split is_lf bytes)

-- a space or a tab
abbrev pub is_blank : ℕ → Bool
is_blank b = b == space || b == tab

-- whether there is a byte and it is this one
abbrev pub is_byte : ℕ → Option ℕ → Bool
is_byte b None = false
is_byte b (Some c) = c == b

-- the last byte is this one
abbrev pub ends_in : ℕ → List ℕ → Bool
ends_in b line = is_byte b (slice_get line (length line - 1))

-- a line without its last byte
abbrev pub but_last : List ℕ → List ℕ
but_last line = take (length line - 1) line

-- a CR at the end is dropped
abbrev pub without_cr : List ℕ → List ℕ
without_cr line = if ends_in cr line then but_last line else line

-- each piece but the last was ended by LF, and one CR before it belongs to the end
abbrev pub trimmed_lines : List (List ℕ) → List (List ℕ)
trimmed_lines [] = []
trimmed_lines (l ∷ []) = l ∷ []
trimmed_lines (l ∷ m ∷ ls) = without_cr l ∷ trimmed_lines (m ∷ ls)

-- the lines as they stand in the file
unfoldable pub file_lines : List ℕ → List (List ℕ)
file_lines text = trimmed_lines (slice_split is_lf text)

-- whether the text is a word: one that is not empty
abbrev pub is_word : List ℕ → Bool
is_word [] = false
is_word (b ∷ bs) = true

-- a word that begins with `#`
abbrev pub begins_comment : List ℕ → Bool
begins_comment [] = false
begins_comment (b ∷ bs) = b == hash

-- what stands between blanks
abbrev pub pieces : List ℕ → List (List ℕ)
pieces line = filter is_word (slice_split is_blank line)

-- the words up to a comment
unfoldable pub words_of : List ℕ → List (List ℕ)
words_of line = take_while (λ word. not (begins_comment word)) (pieces line)

-- whether the first of the words begins a comment
abbrev pub first_begins : List (List ℕ) → Bool
first_begins [] = false
first_begins (word ∷ words) = begins_comment word

-- the first word begins a comment
unfoldable pub is_comment : List ℕ → Bool
is_comment line = first_begins (pieces line)

-- a line of the file goes on with the next
abbrev pub goes_on : List ℕ → Bool
goes_on line = ends_in backslash line && not (is_comment line)

-- lines of the file joined to one, with the number of the first of them
pub record Joined : Type 0 where
  pub number : ℕ
  pub text : List ℕ

-- what stands before the first of some lines belongs to it, and so does the number
abbrev pub with_front : ℕ → List ℕ → List Joined → List Joined
with_front n front [] = (record { number = n; text = front }) ∷ []
with_front n front (j ∷ js) = (record { number = n; text = front ++ j.text }) ∷ js

-- the joined lines, numbered from n; a `\` and the line's end count as one space
abbrev pub joined : ℕ → List (List ℕ) → List Joined
joined n [] = []
joined n (l ∷ ls) =
    if goes_on l then with_front n (but_last l ++ space ∷ []) (joined (n + 1) ls)
    else ((record { number = n; text = l }) ∷ joined (n + 1) ls)

-- a joined line may have so many bytes
abbrev pub conf_line_limit : ℕ
conf_line_limit = 65536

-- the fault of a joined line
abbrev pub fault_of : Joined → Option LineFault
fault_of j =
    if nat_lt conf_line_limit (length j.text) then Some (faults.LineTooLong j.number)
    else (if is_utf8 j.text then None else Some (faults.NotUtf8 j.number))

-- the lines so far, and the fault that ends them, if there is one
abbrev pub lexed_to : List Line → Option LineFault → Lexed
lexed_to lines fault = record { lines = lines; fault = fault }

-- a line without words is skipped
abbrev pub line_before : ℕ → List (List ℕ) → Lexed → Lexed
line_before n [] later = later
line_before n (word ∷ words) later = lexed_to
    ((record { number = n; words = word ∷ words }) ∷ later.lines) later.fault

-- the joined line in front of the later ones, or its fault alone
abbrev pub lexed_before : Joined → Option LineFault → Lexed → Lexed
lexed_before j (Some fault) later = lexed_to [] (Some fault)
lexed_before j None later = line_before j.number (words_of j.text) later

-- the lines before the first faulty one, and its fault
abbrev pub lexed_lines : List Joined → Lexed
lexed_lines [] = lexed_to [] None
lexed_lines (j ∷ js) = lexed_before j (fault_of j) (lexed_lines js)

-- the lines of a text
unfoldable pub lexed : List ℕ → Lexed
lexed text = lexed_lines (joined 1 (file_lines text))
