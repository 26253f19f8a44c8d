-- A text that was written is the same text in other words.
use Rattle.std.proofs.Common.{◌≡◌, ℕ, List, Result, subst}
use Rattle.std.specs.declared.option.Option.{Option}
use Rattle.sq_journal.specs.Putting.{Puts}

-- what was written of a text was written of each that equals it
pub puts_as : {T E : Type 0} (a b : Option (List ℕ)) (m n : ℕ) (r : Result T E) (s t : List ℕ) → s ≡ t
    → Puts a b m n r s → Puts a b m n r t
puts_as a b m n r s t e p = subst (λ x. Puts a b m n r x) e p
