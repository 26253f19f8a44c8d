use Rattle.sq_rewrite.proofs.RunLaws.{reached_acted, reached_stop}
use Rattle.sq_rewrite.proofs.rewriters.Rewriter.act.Goals as goal

pub invariant_of-self : goal.invariant_of-self
invariant_of-self c = reached_stop _ c.in-Some.proc c.next.new.self c.self.invariant c.in-Some.ensures.least

pub invariant_of-self-in-None : goal.invariant_of-self-in-None
invariant_of-self-in-None c = rw (c.act.ensures.value, c.in-None.ensures.same)
    (reached_acted _ c.self.invariant c.in-None.ensures.least)
