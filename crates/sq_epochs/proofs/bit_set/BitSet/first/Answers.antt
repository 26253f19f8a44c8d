use Rattle.std.proofs.Common.{arith, subst}
use mir.Syntax.{w128}
use Rattle.std.specs.Int.{trailing_zeros}
use Rattle.sq_epochs.specs.Sets.{IsLeast}
use Rattle.sq_epochs.proofs.WordLaws.{lowest}
use Rattle.sq_epochs.proofs.bit_set.BitSet.first.Goals as goal

pub returns-else-self-eq0-clause-least : goal.returns-else-self-eq0-clause-least
returns-else-self-eq0-clause-least c = subst (λ w. IsLeast w (trailing_zeros w128 c.self.inside.bits)) c.self.view_is
    (lowest c.self.inside.bits (omega (arith, c.if-self-eq0.false)) (omega arith))
