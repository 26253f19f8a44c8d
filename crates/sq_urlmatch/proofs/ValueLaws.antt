-- Sets by the places of their acls.
use Rattle.std.proofs.Common.{◌≡◌, ℕ, zero, suc, List, [], ◌∷◌, ◌++◌, length, Some, ◌⊎◌, inl, inr, refl, ap}
use Rattle.std.specs.List.{slice_get}
use Rattle.sq_urlmatch.specs.declared.sets.ValueSets.{ValueSets}

-- what stands at a place after a push stood there, or is what was pushed
pub before_or_last : (sets : List ValueSets) (pushed : ValueSets) (place : ℕ) (s : ValueSets)
    → slice_get (sets ++ pushed ∷ []) place ≡ Some s →
    (slice_get sets place ≡ Some s) ⊎ ((place ≡ length sets) × (s ≡ pushed))
before_or_last [] pushed zero s at = inr (refl, cc)
before_or_last [] pushed (suc place) s at = cc
before_or_last (x ∷ sets) pushed zero s at = inl at
before_or_last (x ∷ sets) pushed (suc place) s at = elim (before_or_last sets pushed place s at)
    [ inl before ↦ inl before | inr last ↦ inr (ap suc last.0, last.1) ]
