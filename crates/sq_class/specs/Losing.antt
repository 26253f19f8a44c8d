-- The questions of a class that are lost, and how they are handed out.
use Rattle.std.specs.Prelude.{◌≡◌, ℕ, List, [], ◌∷◌, ◌==◌, not, if◌then◌else◌, filter, is_none, None, Some}
use Rattle.std.specs.declared.option.Option.{Option}
use Rattle.sq_base.specs.declared.helpers.Cause.{Cause}
use Rattle.sq_lookup.specs.Index.{IsListed}
use Rattle.sq_machine.specs.Losses.{Loss, later_lost}
use Rattle.sq_machine.specs.OpenLookups.{question_of, waits_in}
use Rattle.sq_model.specs.ClassRows.{ClassRow, handed}
use Rattle.sq_class.specs.Parts.{PartState}
use Rattle.sq_class.specs.declared.lost.Lost.{Lost}

-- why a question is lost, where it is
abbrev pub lost_cause : ℕ → List Loss → Option Cause
lost_cause q [] = None
lost_cause q (l ∷ ls) = if q == l.question then Some l.cause else lost_cause q ls

-- a class once all its lost questions were handed out
abbrev pub handed_out : ClassRow → ClassRow
handed_out r = record {
  kept = r.kept;
  lookups = filter (λ l. is_none (lost_cause l.question r.stock.losses)) r.lookups;
  stock = handed r.stock;
}

-- the first of the lost questions was handed out with its key and the checks that waited for it
pub record IsHandedOut (l : Lost) (old new : PartState) : Type 0 where
  pub first : old.row.stock.losses ≡ record { question = l.question; cause = l.cause }
      ∷ new.row.stock.losses
  pub listed : IsListed (record { rows = old.row.lookups; waiting = old.waiting }) l.question l.key
      l.checks
  pub row_is : new.row ≡ record old.row {
    lookups = filter (λ r. not (l.question == r.question)) old.row.lookups;
    stock = record old.row.stock { losses = later_lost old.row.stock.losses };
  }
  pub waiting_are : (n : ℕ)
      → question_of n new.waiting
      ≡ (if waits_in old.waiting l.question n then None else question_of n old.waiting)
  pub limit_is : new.limit ≡ old.limit
