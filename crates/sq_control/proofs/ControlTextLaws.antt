-- Lines that are written in pieces.
use Rattle.std.proofs.Common.{ℕ, List, ◌++◌}
use Rattle.std.proofs.KnownBytes.{Appends-trans}
use Rattle.std.specs.declared.option.Option.{Option}
use Rattle.std.specs.Io.KnownBytes.{Appends}
use Rattle.sq_outside.specs.Output.{Grew, IsProperPrefix}
use Rattle.sq_outside.proofs.Writing.{Grew_proper_after, Grew_proper_more}

-- a front of the first piece, of the second, of the third
pub short_first : (a b : Option (List ℕ)) (x y z : List ℕ) → Grew a b (λ part. IsProperPrefix part x)
    → Grew a b (λ part. IsProperPrefix part (x ++ y ++ z))
short_first a b x y z g = Grew_proper_more a b (x ++ y) z (Grew_proper_more a b x y g)

pub short_second : (a b c : Option (List ℕ)) (x y z : List ℕ) → Appends a b x → Grew b c (λ part. IsProperPrefix part y)
    → Grew a c (λ part. IsProperPrefix part (x ++ y ++ z))
short_second a b c x y z p g = Grew_proper_more a c (x ++ y) z (Grew_proper_after a b c x y p g)

pub short_third : (a b c d : Option (List ℕ)) (x y z : List ℕ) → Appends a b x → Appends b c y
    → Grew c d (λ part. IsProperPrefix part z)
    → Grew a d (λ part. IsProperPrefix part (x ++ y ++ z))
short_third a b c d x y z p q g = Grew_proper_after a c d (x ++ y) z (Appends-trans a b c x y p q) g
