-- In the statement: docs/STATEMENT.md lists which definitions.
-- Tables of names: what stands beside each name.
use Rattle.std.specs.Prelude.{ℕ, List, Bool, bytes_eq}
use Rattle.std.specs.List.{list_any}
use Rattle.std.specs.Map.{lookup}
use Rattle.std.specs.declared.option.Option.{Option}

-- what stands beside the word in a table, where the word is a name of it; of several, the first
-- counts
abbrev pub beside : {A : Type 0} → List (List ℕ × A) → List ℕ → Option A
beside table word = lookup (λ name. bytes_eq word name) table

-- the word is one of these names
abbrev pub is_among : List (List ℕ) → List ℕ → Bool
is_among names word = list_any (λ name. bytes_eq word name) names
