use Rattle.std.proofs.Common.{◌∙◌, sym, arith}
use Rattle.sq_forward.proofs.deciding.known.Goals as goal

pub returns-then-is_named : goal.returns-then-is_named
returns-then-is_named c = λ test all alike.
    all c.loop-decided.decided-index _ (omega (arith, c.loop-decided-test.true))
    ∙ alike _ (sym c.is_named.ensures ∙ c.if-is_named.true)
