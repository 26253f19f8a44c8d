-- In the statement: docs/STATEMENT.md lists which definitions.
-- Answers of helpers that a check has: at most one for each class and key.
use Rattle.std.specs.Prelude.{ℕ, List, [], ◌∷◌, Bool, true, false, not, ◌&&◌, ◌||◌, ◌==◌, bytes_eq}
use Rattle.sq_base.specs.declared.helpers.Answer.{Answer}

-- an answer of this class and key is among these
abbrev pub has_answer : List Answer → ℕ → List ℕ → Bool
has_answer [] class key = false
has_answer (a ∷ answers) class key = (a.class == class && bytes_eq a.key key)
    || has_answer answers class key

-- no two answers have one class and key
abbrev pub are_distinct : List Answer → Bool
are_distinct [] = true
are_distinct (a ∷ answers) = not (has_answer answers a.class a.key) && are_distinct answers
