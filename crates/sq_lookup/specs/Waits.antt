-- The checks that wait.
use Rattle.std.specs.Prelude.{ℕ, List, Bool, true, ◌==◌, None, Some, is_none}
use Rattle.std.specs.declared.option.Option.{Option}
use Rattle.std.specs.List.{list_any}
use Rattle.std.specs.Map.{remove_entry}
use Rattle.sq_machine.specs.OpenLookups.{WaitingChecks, question_of}

-- a check is among these
abbrev pub has_check : ℕ → List ℕ → Bool
has_check check checks = list_any (λ n. check == n) checks

-- a check, if there is one, waits for nothing
abbrev pub is_free : Option ℕ → WaitingChecks → Bool
is_free None waiting = true
is_free (Some check) waiting = is_none (question_of check waiting)

-- the list without a check
abbrev pub without_waiting : ℕ → WaitingChecks → WaitingChecks
without_waiting check waiting = remove_entry (λ n. check == n) waiting

-- the list without a check, if there is one
abbrev pub without_some : Option ℕ → WaitingChecks → WaitingChecks
without_some None waiting = waiting
without_some (Some check) waiting = without_waiting check waiting
