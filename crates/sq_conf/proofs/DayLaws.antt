-- Weekdays letter by letter.
use Rattle.std.proofs.Common.{◌≡◌, ℕ, ◌+◌, ◌<◌, List, ◌∷◌, Some, length, get_or, drop, bit_or, refl, sym, ap, ◌∙◌}
use Rattle.sq_base.proofs.CommonLaws.{cons_at}
use Rattle.sq_rules.specs.AclValues.{day_bits, days_on}

-- the weekdays of one letter more
pub days_step : (days more at b : ℕ) (word : List ℕ) → at < length word → get_or word at 0 ≡ b → day_bits b ≡ Some more
    → days_on days (drop at word) ≡ days_on 0 word → days_on (bit_or days more) (drop (at + 1) word) ≡ days_on 0 word
days_step days more at b word h e bits inv =
    let step : days_on days (b ∷ drop (at + 1) word) ≡ days_on (bit_or days more) (drop (at + 1) word) = rw bits refl in
    sym step ∙ ap (days_on days) (sym (cons_at word at b h e)) ∙ inv
