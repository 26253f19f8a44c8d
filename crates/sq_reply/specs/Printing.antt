-- What printing knows of a reply's values.
use Rattle.std.specs.Prelude.{List}
use Rattle.std.specs.List.{AllByRecursion}
use Rattle.sq_base.specs.Texts.{AreBytes}
use Rattle.sq_base.specs.declared.helpers.Pair.{Pair}

-- each value has bytes
abbrev pub HaveBytes : List Pair → Type 0
HaveBytes pairs = AllByRecursion (λ p. AreBytes p.value) pairs
