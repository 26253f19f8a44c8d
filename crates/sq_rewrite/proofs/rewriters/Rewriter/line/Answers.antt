use Rattle.std.proofs.Common.{rules}
use Rattle.sq_rewrite.specs.Calls.{Wrote}
use Rattle.sq_rewrite.proofs.RunLaws.{reached_after}
use Rattle.sq_rewrite.proofs.rewriters.Rewriter.line.Goals as goal

pub invariant_of-self : goal.invariant_of-self
invariant_of-self c = rw (c.in_err-note.ensures.err.0, c.in_err-note.ensures.err.1) c.self.invariant

pub invariant_of-self-2 : goal.invariant_of-self-2
invariant_of-self-2 c = reached_after (Wrote c.args.proc c.args.bytes.now c.in_ok-got.got) _ _ c.self.invariant
    (search rules) (search rules)
