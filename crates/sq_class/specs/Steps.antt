-- What a step of a check does to the part of the class that it asks.
use Rattle.std.specs.Prelude.{◌≡◌, ℕ, suc, ◌<◌, ◌≤◌, List, Bool, true, not, ◌&&◌, ◌==◌, if◌then◌else◌, is_none, is_some}
use Rattle.sq_cache.specs.declared.kept.Taken.{Taken}
use Rattle.sq_machine.specs.AnswerReadings.{waits_told}
use Rattle.sq_machine.specs.Farms.{full}
use Rattle.sq_machine.specs.Limits.{last_number}
use Rattle.sq_machine.specs.Marks.{Put}
use Rattle.sq_machine.specs.OpenLookups.{pending_in, question_of}
use Rattle.sq_machine.specs.StepRule.{StepSays, refresh, says_asked, says_kept}
use Rattle.sq_machine.specs.declared.kept.CachedReply.{CachedReply}
use Rattle.sq_model.specs.ClassRows.{ClassRow}
use Rattle.sq_model.specs.StepRows.{after_says, said_of}
use Rattle.sq_model.specs.declared.stepping.StepEffect.{StepEffect}
use Rattle.sq_class.specs.Parts.{PartState}

-- a step of this check, of the class at this place, after so many questions, says so, is told so,
-- and has left the part so
pub record IsStepped (place count check : ℕ) (s : StepSays) (said : StepEffect)
    (old new : PartState) : Type 0 where
  pub said_is : said ≡ said_of place s
  pub fits : is_some s.put ≡ true → suc count < last_number
  pub row_is : new.row ≡ after_says place count s old.row
  pub waiting_are : (n : ℕ)
      → question_of n new.waiting
      ≡ (if n == check then waits_told s.answer else question_of n old.waiting)
  pub limit_is : new.limit ≡ old.limit

-- a step puts a question, and no number is left for it
abbrev pub IsSpent : ℕ → StepSays → Type 0
IsSpent count s = (is_some s.put ≡ true) × (last_number ≤ suc count)

-- a question may be put for a key: none is open, and the queue has room
abbrev pub may_put : List ℕ → ClassRow → Bool
may_put key r = is_none (pending_in key r.lookups) && not (full r.stock)

-- a verdict that was taken, as it is kept
abbrev pub verdict_taken : Taken → CachedReply
verdict_taken t = record { what = t.what; question = t.question; date = t.date }

-- what a step says that takes this verdict
abbrev pub says_taken : List ℕ → Put → ℕ → Taken → ClassRow → StepSays
says_taken name p now t r = says_kept name p (verdict_taken t) now
    (refresh t.refresh (pending_in p.key r.lookups) (full r.stock) p)

-- what a step says that finds no fresh verdict
abbrev pub says_open : List ℕ → Put → ℕ → ℕ → ClassRow → StepSays
says_open name p now count r = says_asked name p now (pending_in p.key r.lookups) (full r.stock)
    count
