-- In the statement: docs/STATEMENT.md lists which definitions.
-- Questions to helpers that have no answer yet, with their keys, and the checks that wait for them.
use Rattle.std.specs.Prelude.{ℕ, List, [], ◌∷◌, Bool, true, ◌&&◌, ◌==◌, if◌then◌else◌, nat_lt, find, is_none}
use Rattle.std.specs.List.{list_any, list_all}
use Rattle.std.specs.Option.{option_map}
use Rattle.std.specs.declared.option.Option.{Option}
use Rattle.sq_machine.specs.KeptLists.{same_key}
use Rattle.sq_machine.specs.Events.{is_number}
use Rattle.std.specs.Map.{lookup}

-- an open lookup: the question and its key
pub record LookupRow : Type 0 where
  pub question : ℕ
  pub key : List ℕ

-- the question that is open for a key
abbrev pub pending_in : List ℕ → List LookupRow → Option ℕ
pending_in key rows = option_map (λ l. l.question) (find (λ l. same_key key l.key) rows)

-- each key has one open question at most
abbrev pub keys_once : List LookupRow → Bool
keys_once [] = true
keys_once (l ∷ rows) = is_none (pending_in l.key rows) && keys_once rows

-- a question is open
abbrev pub is_open_lookup : ℕ → List LookupRow → Bool
is_open_lookup question rows = list_any (λ l. question == l.question) rows

-- the key of an open question
abbrev pub key_of : ℕ → List LookupRow → Option (List ℕ)
key_of question rows = option_map (λ l. l.key) (find (λ l. question == l.question) rows)

-- a new lookup at its place in the order of the questions
abbrev pub with_lookup : LookupRow → List LookupRow → List LookupRow
with_lookup l [] = l ∷ []
with_lookup l (r ∷ rows) = if nat_lt l.question r.question then l ∷ r ∷ rows else r
    ∷ with_lookup l rows

-- each open question is below this one
abbrev pub all_below : ℕ → List LookupRow → Bool
all_below question rows = list_all (λ l. nat_lt l.question question) rows

-- checks with the question that each waits for
abbrev pub WaitingChecks : Type 0
WaitingChecks = List (ℕ × ℕ)

-- the question that a check waits for
abbrev pub question_of : ℕ → WaitingChecks → Option ℕ
question_of check waiting = lookup (λ n. check == n) waiting

-- a check waits for a question
abbrev pub waits_in : WaitingChecks → ℕ → ℕ → Bool
waits_in waiting question check = is_number question (question_of check waiting)
