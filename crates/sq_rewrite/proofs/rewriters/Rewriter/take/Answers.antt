use Rattle.sq_rewrite.proofs.RunLaws.{reached_taking}
use Rattle.sq_rewrite.proofs.rewriters.Rewriter.take.Goals as goal

pub invariant_of-self : goal.invariant_of-self
invariant_of-self c = reached_taking _ c.args.question c.take.result c.take.new.self c.self.invariant c.take.ensures.row
    c.take.ensures.taken c.take.ensures.none
