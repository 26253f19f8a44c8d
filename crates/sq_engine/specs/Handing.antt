-- How the lost questions of a class are handed out to the checks that wait for them.
use Rattle.std.specs.Prelude.{◌≡◌, ℕ, List, [], ◌∷◌, true, if◌then◌else◌, is_some, None, Some}
use Rattle.std.specs.declared.option.Option.{Option}
use Rattle.sq_base.specs.declared.helpers.What.TheVariants as what
use Rattle.sq_machine.specs.Events.{is_number}
use Rattle.sq_machine.specs.Losses.{Loss}
use Rattle.sq_machine.specs.OpenLookups.{is_open_lookup, question_of, waits_in}
use Rattle.sq_class.specs.Losing.{handed_out, lost_cause}
use Rattle.sq_class.specs.Parts.{PartState}
use Rattle.sq_checks.specs.OpenChecks.{CheckParts, all_ended, wait_at}

-- the checks after each of these lost questions ended with its fault
abbrev pub all_lost : List Loss → ℕ → List (ℕ × CheckParts) → List (ℕ × CheckParts)
all_lost [] now checks = checks
all_lost (l ∷ ls) now checks = all_lost ls now
    (all_ended l.question (what.Fault l.cause) now checks)

-- the question that is waited for, where it is not lost
abbrev pub still_waits : List Loss → Option ℕ → Option ℕ
still_waits losses None = None
still_waits losses (Some q) = if is_some (lost_cause q losses) then None else Some q

-- the class lists the checks that wait for a question that is open in it
abbrev pub AreListed : PartState → List (ℕ × CheckParts) → Type 0
AreListed p checks = (n q : ℕ) → is_open_lookup q p.row.lookups ≡ true
    → waits_in p.waiting q n ≡ is_number q (wait_at n checks)

-- the lost questions of a class, which were open, were handed out
pub record HasHandedOut (old new : PartState) : Type 0 where
  pub row_is : new.row ≡ handed_out old.row
  pub waits : (n : ℕ) → question_of n new.waiting
      ≡ still_waits old.row.stock.losses (question_of n old.waiting)
  pub limit_is : new.limit ≡ old.limit
  pub opened : (q : ℕ) → is_some (lost_cause q old.row.stock.losses) ≡ true
      → is_open_lookup q old.row.lookups ≡ true
