-- Targets in absolute form, cut at their first `:`.
use Rattle.std.proofs.Common.{◌≡◌, ℕ, List, true, take, drop, ◌∙◌, ap, ap₂}
use Rattle.std.proofs.lemmas.List.{drop-drop}
use Rattle.std.specs.List.{list_all, position_or_len}
use Rattle.sq_base.specs.Addresses.{is_colon}
use Rattle.sq_base.specs.Targets.{is_target_byte, with_colon, absolute_form}

-- what stands before and behind the first `:` is the target's
pub cut_at_colon : (text scheme rest after : List ℕ) → list_all is_target_byte text ≡ true
    → scheme ≡ take (position_or_len is_colon text) text
    → rest ≡ drop (position_or_len is_colon text) text → after ≡ drop 1 rest
    → with_colon scheme after ≡ absolute_form text
unfolding absolute_form
cut_at_colon text scheme rest after all front back behind =
    rw all (ap₂ with_colon front (behind ∙ ap (drop 1) back ∙ drop-drop 1 (position_or_len is_colon text) text))
