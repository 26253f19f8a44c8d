-- Tables: values by number.
use Rattle.std.specs.Prelude.{ℕ, List}
use Rattle.std.specs.Map.{lookup, remove_entry}
use Rattle.std.specs.Ordering.{nat_cmp, is_eq}
use Rattle.std.specs.declared.option.Option.{Option}

-- what a table has at a number
abbrev pub value_at : {A : Type 0} → List (ℕ × A) → ℕ → Option A
value_at entries c = lookup (λ k. is_eq (nat_cmp c k)) entries

-- the table without a number
abbrev pub without : {A : Type 0} → ℕ → List (ℕ × A) → List (ℕ × A)
without c entries = remove_entry (λ k. is_eq (nat_cmp c k)) entries
