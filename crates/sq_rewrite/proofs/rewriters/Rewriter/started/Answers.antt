use Rattle.std.proofs.Common.{rules, suc}
use Rattle.sq_rewrite.specs.Calls.{Started}
use Rattle.sq_rewrite.proofs.RunLaws.{reached_after}
use Rattle.sq_rewrite.proofs.rewriters.Rewriter.started.Goals as goal

pub invariant_of-self : goal.invariant_of-self
invariant_of-self c = reached_after (Started (suc c.self.inside.started)) _ _ c.self.invariant (search rules)
    (search rules)
