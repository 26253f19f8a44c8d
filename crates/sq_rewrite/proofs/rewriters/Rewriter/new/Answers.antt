use Rattle.sq_rewrite.proofs.RunLaws.{reached_begun}
use Rattle.sq_rewrite.proofs.rewriters.Rewriter.new.Goals as goal

pub invariant_of-result : goal.invariant_of-result
invariant_of-result c = rw (c.new.ensures, c.new-2.ensures, c.new-3.ensures) (reached_begun c.args.class.now)
