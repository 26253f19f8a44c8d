-- The default of rules is the opposite of the last.
use Rattle.std.proofs.Common.{◌≡◌, List, [], ◌∷◌, ◌++◌, not, refl}
use Rattle.sq_rules.specs.declared.configs.Rule.{Rule}
use Rattle.sq_rules.specs.declared.outcomes.Why.TheVariants as why
use Rattle.sq_rules.specs.Verdicts.{default_of}

pub default_of_last : (rules : List Rule) (r : Rule)
    → default_of (rules ++ r ∷ []) ≡ record { allow = not r.allow; why = why.Default }
default_of_last [] r = refl
default_of_last (q ∷ []) r = refl
default_of_last (q ∷ p ∷ rules) r = default_of_last (p ∷ rules) r
