-- In the statement: docs/STATEMENT.md lists which definitions.
-- The words of a line of a configuration, taken from the left up to the first fault: a word is
-- tried first for its form, and then for what it names.
use Rattle.std.specs.Prelude.{ℕ, List, [], ◌∷◌, ◌++◌, Bool, true, false, ◌==◌, Some, None, Ok, Err}
use Rattle.std.specs.declared.option.Option.{Option}
use Rattle.std.specs.declared.result.Result.{Result}
use Rattle.sq_base.specs.Results.{◌>>=◌}
use Rattle.sq_rules.specs.declared.kinds.Kind.{Kind}
use Rattle.sq_rules.specs.declared.kinds.Kind.TheVariants.{MissingWord, BadValue}

-- words that are left
abbrev pub WordList : Type 0
WordList = List (List ℕ)

-- a fault where the test does not hold
abbrev pub unless : {A : Type 0} → Bool → Kind → Result A Kind → Result A Kind
unless true k rest = rest
unless false k rest = Err k

-- a fault where there is none
abbrev pub needed : {A : Type 0} → Kind → Option A → Result A Kind
needed k None = Err k
needed k (Some x) = Ok x

-- the next word, which is needed, and those after it
abbrev pub word : WordList → Result (List ℕ × WordList) Kind
word [] = Err MissingWord
word (w ∷ ws) = Ok (w, ws)

-- whether a list is empty
abbrev pub is_empty : {A : Type 0} → List A → Bool
is_empty [] = true
is_empty (x ∷ xs) = false

-- no word is left; one more would be too many
abbrev pub no_more : {A : Type 0} → WordList → A → Result A Kind
no_more ws x = unless (is_empty ws) BadValue (Ok x)

-- a state that each word changes in turn
abbrev pub over : {S : Type 0} → (S → List ℕ → Result S Kind) → S → WordList → Result S Kind
over step s [] = Ok s
over step s (w ∷ ws) = step s w >>= λ next. over step next ws

-- the same for one word or more
abbrev pub over_some : {S : Type 0} → (S → List ℕ → Result S Kind) → S → WordList → Result S Kind
over_some step s [] = Err MissingWord
over_some step s (w ∷ ws) = over step s (w ∷ ws)

-- a value behind those so far
abbrev pub one_more : {A : Type 0} → (List ℕ → Result A Kind) → List A → List ℕ
    → Result (List A) Kind
one_more form values w = form w >>= λ v. Ok (values ++ v ∷ [])

-- one value or more, each a word of a form
abbrev pub some_of : {A : Type 0} → (List ℕ → Result A Kind) → WordList → Result (List A) Kind
some_of form ws = over_some (one_more form) [] ws

-- the word begins with this byte
abbrev pub begins : ℕ → List ℕ → Bool
begins byte [] = false
begins byte (b ∷ bs) = b == byte
