use Rattle.sq_rewrite.proofs.RunLaws.{reached_place, reached_proc, reached_row}
use Rattle.sq_rewrite.proofs.rewriters.Rewriter.has_new_numbers.Goals as goal

pub returns-clause-question : goal.returns-clause-question
returns-clause-question c = rw (← c.self.view_is) (reached_place _ c.self.invariant)

pub returns-clause-row : goal.returns-clause-row
returns-clause-row c = rw (← c.self.view_is) (reached_row _ c.self.invariant)

pub returns-clause-proc : goal.returns-clause-proc
returns-clause-proc c = rw (← c.self.view_is) (reached_proc _ c.self.invariant)
