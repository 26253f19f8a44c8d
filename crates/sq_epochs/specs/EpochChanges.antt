-- What the calls of one class do to its part, as changes of a part.
use Rattle.std.specs.Prelude.{◌≡◌, ℕ, ◌==◌, ◌&&◌, if◌then◌else◌, None, Some, List, []}
use Rattle.sq_base.specs.declared.helpers.Cause.TheVariants as cause
use Rattle.sq_rules.specs.Classes.{Class}
use Rattle.sq_machine.specs.OpenLookups.{question_of, waits_in}
use Rattle.sq_model.specs.StepRows.{says_of_row}
use Rattle.sq_model.specs.declared.stepping.StepEffect.{StepEffect}
use Rattle.sq_base.specs.declared.helpers.What.{What}
use Rattle.sq_lookup.specs.Waits.{has_check}
use Rattle.sq_machine.specs.Farms.{failed, is_last_start}
use Rattle.sq_model.specs.ClassRows.{after_failed, after_reply, is_waiting}
use Rattle.sq_class.specs.Losing.{IsHandedOut, handed_out, lost_cause}
use Rattle.sq_class.specs.declared.lost.Lost.{Lost}
use Rattle.sq_class.specs.Parts.{PartState}
use Rattle.sq_class.specs.Steps.{IsStepped}

-- a step at a moment, of this check, where so many questions were put before
pub record Stepping : Type 0 where
  pub now : ℕ
  pub check : ℕ
  pub count : ℕ

-- a step of a check on the class at a place, which needs this key, says what the rule says, and the
-- part is left so
abbrev pub IsResolved : Class → ℕ → List ℕ → Stepping → StepEffect → PartState → PartState → Type 0
IsResolved class place key s said old new =
    (e : ℕ) → IsStepped place s.count s.check
    (says_of_row class e place key s.now s.count old.row) said old new

-- the check waits for nothing in this part
pub record HasLeft (check : ℕ) (old new : PartState) : Type 0 where
  pub row_is : new.row ≡ old.row
  pub waiting_are : (n : ℕ)
      → question_of n new.waiting ≡ (if n == check then None else question_of n old.waiting)
  pub limit_is : new.limit ≡ old.limit

-- what a reply says, and its date
pub record Replied : Type 0 where
  pub what : What
  pub date : ℕ

-- a reply of process k to question q, of this key, says so and dates from then; these checks waited
-- for it
pub record HasReplied (class : Class) (k q : ℕ) (key : List ℕ) (r : Replied)
    (checks : List ℕ) (old new : PartState) : Type 0 where
  pub checks_are : (n : ℕ) → has_check n checks ≡ waits_in old.waiting q n
  pub row_is : new.row ≡ after_reply class k q key r.what r.date old.row
  pub waiting_are : (n : ℕ)
      → question_of n new.waiting
      ≡ (if waits_in old.waiting q n then None else question_of n old.waiting)
  pub limit_is : new.limit ≡ old.limit

-- the first of the lost questions was handed out; what is left in the end is the same
pub record IsHandedOn (l : Lost) (old new : PartState) : Type 0 where
  pub out : IsHandedOut l old new
  pub after : handed_out new.row ≡ handed_out old.row

-- no question was lost, so nothing changed, and the row is what is left in the end
pub record HasNoLoss (old new : PartState) : Type 0 where
  pub none : old.row.stock.losses ≡ []
  pub same : new ≡ old
  pub done : handed_out old.row ≡ old.row

-- a start failed; these questions are lost, and once they were handed out, the row is that of a
-- failed start
pub record HasFailed (old new : PartState) : Type 0 where
  pub value : new ≡ record old { row = record old.row { stock = failed old.row.stock } }
  pub after : old.row.stock.losses ≡ [] → handed_out new.row ≡ after_failed old.row
  pub lost : old.row.stock.losses ≡ [] → (q : ℕ)
      → lost_cause q new.row.stock.losses
      ≡ (if is_last_start old.row.stock && is_waiting q old.row.stock.queue then Some cause.NoHelper
      else None)

-- no start was open, and nothing changed
pub record HasNoStart (old new : PartState) : Type 0 where
  pub none : old.row.stock.starting ≡ 0
  pub same : new ≡ old
