-- One class of an epoch as its part holds it.
use Rattle.std.specs.Prelude.{◌≡◌, ℕ, List, if◌then◌else◌}
use Rattle.sq_machine.specs.Farms.{Stock, places}
use Rattle.sq_machine.specs.OpenLookups.{LookupRow, WaitingChecks, is_open_lookup, question_of}
use Rattle.sq_model.specs.ClassRows.{ClassRow}

-- the class's row, the checks with the question that each waits for, and how many verdicts may be
-- kept
pub record PartState : Type 0 where
  pub row : ClassRow
  pub waiting : WaitingChecks
  pub limit : ℕ

-- the farm has the question of each open lookup in one place, and no other question
abbrev pub HoldsOpen : Stock → List LookupRow → Type 0
HoldsOpen v rows = (q : ℕ) → places q v ≡ (if is_open_lookup q rows then 1 else 0)

-- a part is as it was before; only the order in which its checks are listed may differ
pub record IsAsBefore (old new : PartState) : Type 0 where
  pub row_is : new.row ≡ old.row
  pub waiting_are : (n : ℕ) → question_of n new.waiting ≡ question_of n old.waiting
  pub limit_is : new.limit ≡ old.limit
