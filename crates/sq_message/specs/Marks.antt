-- Which of the names of some fields were listed.
use Rattle.std.specs.Prelude.{◌≡◌, ℕ, List, Bool, true, Some, None, if◌then◌else◌}
use Rattle.std.specs.declared.option.Option.{Option}
use Rattle.std.specs.BTreeMap.{is_at}
use Rattle.std.specs.Cmp.Lexicographic.{slice_cmp}
use Rattle.std.specs.List.{list_any}
use Rattle.std.specs.Map.{lookup}
use Rattle.std.specs.Ordering.{nat_cmp}
use Rattle.std.specs.Str.{str_eq_ignore_ascii_case, str_to_ascii_lowercase}
use Rattle.sq_base.specs.declared.requests.Field.{Field}
use Rattle.sq_message.specs.FieldNames.{is_one_of}

-- some field has the name, without case
abbrev pub names_some : List Field → List ℕ → Bool
names_some fields name = list_any (λ f. str_eq_ignore_ascii_case f.name name) fields

-- what stands at a key
abbrev pub mark_at : List (List ℕ × Bool) → List ℕ → Option Bool
mark_at marks key = lookup (is_at (slice_cmp nat_cmp key)) marks

-- what stands at a name, in lower case
abbrev pub mark_of : List (List ℕ × Bool) → List ℕ → Option Bool
mark_of marks name = mark_at marks (str_to_ascii_lowercase name)

-- this, if there is anything
abbrev pub marked_if : Bool → Bool → Option Bool
marked_if here mark = if here then Some mark else None

-- a mark at the name of each field says whether it is one of those that are kept, and of the names
-- of fields these tell what all options so far tell
pub record IsMarked (fields : List Field) (marks : List (List ℕ × Bool))
    (kept options : List (List ℕ)) : Type 0 where
  pub marked : (name : List ℕ) → mark_of marks name
      ≡ marked_if (names_some fields name) (is_one_of kept name)
  pub tells : (name : List ℕ) → names_some fields name ≡ true
      → is_one_of kept name ≡ is_one_of options name
