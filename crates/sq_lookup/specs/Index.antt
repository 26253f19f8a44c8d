-- How open lookups are found: by question, by key, and by check.
use Rattle.std.specs.Prelude.{◌≡◌, ℕ, List, [], ◌∷◌, Bool, true, false, ◌==◌, map, cond, None, Some}
use Rattle.std.specs.declared.option.Option.{Option}
use Rattle.std.specs.Map.{lookup, remove_entry}
use Rattle.sq_machine.specs.KeptLists.{same_key}
use Rattle.sq_machine.specs.OpenLookups.{LookupRow, WaitingChecks, key_of, pending_in, keys_once, waits_in}
use Rattle.sq_lookup.specs.Waits.{has_check}
use Rattle.sq_lookup.specs.declared.rows.Row.{Row}

-- the open lookups of a class, in the order of their questions, and the checks that wait
pub record OpenLookups : Type 0 where
  pub rows : List LookupRow
  pub waiting : WaitingChecks

-- what a table of keys has at a key
abbrev pub question_at : List (List ℕ × ℕ) → List ℕ → Option ℕ
question_at keys key = lookup (λ k. same_key key k) keys

-- the table without a key
abbrev pub without_key : List ℕ → List (List ℕ × ℕ) → List (List ℕ × ℕ)
without_key key keys = remove_entry (λ k. same_key key k) keys

-- what a table of rows has at a question
abbrev pub row_at : List (ℕ × Row) → ℕ → Option Row
row_at rows question = lookup (λ q. question == q) rows

-- the open lookups that a table of rows has
abbrev pub rows_of : List (ℕ × Row) → List LookupRow
rows_of rows = map (λ e. record { question = e.0; key = e.1.key }) rows

-- the lookups without the first one of this question
abbrev pub without_row : ℕ → List LookupRow → List LookupRow
without_row question [] = []
without_row question (l ∷ rows) = cond (question == l.question) rows (l ∷ without_row question rows)

abbrev pub listed_by : Option Row → ℕ → Bool
listed_by None check = false
listed_by (Some row) check = has_check check row.checks

-- a check stands in the list of a question
abbrev pub listed_in : List (ℕ × Row) → ℕ → ℕ → Bool
listed_in rows question check = listed_by (row_at rows question) check

-- the tables agree: a key has the question that is open for it, each key is there once, and a check
-- stands in the list of the question that it waits for
pub record IsIndexed (keys : List (List ℕ × ℕ)) (rows : List (ℕ × Row))
    (waiting : WaitingChecks) : Type 0 where
  pub known : (key : List ℕ) → question_at keys key ≡ pending_in key (rows_of rows)
  pub once : keys_once (rows_of rows) ≡ true
  pub listed : (question check : ℕ)
      → listed_in rows question check ≡ waits_in waiting question check

-- an open lookup with its list: the key, and the checks that wait for the question
pub record IsListed (l : OpenLookups) (question : ℕ) (key : List ℕ) (checks : List ℕ) : Type 0 where
  pub key_is : key_of question l.rows ≡ Some key
  pub checks_are : (check : ℕ) → has_check check checks ≡ waits_in l.waiting question check
