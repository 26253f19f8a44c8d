use Rattle.std.proofs.Common.{rules}
use Rattle.sq_rewrite.specs.Calls.{StartFailed}
use Rattle.sq_rewrite.proofs.RunLaws.{reached_after}
use Rattle.sq_rewrite.proofs.rewriters.Rewriter.start_failed.Goals as goal

pub invariant_of-self-2 : goal.invariant_of-self-2
invariant_of-self-2 c = reached_after StartFailed _ _ c.self.invariant (search rules) (search rules)
