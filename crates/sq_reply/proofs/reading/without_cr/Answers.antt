use Rattle.std.proofs.Common.{arith}
use Rattle.std.proofs.lemmas.Grind.{common_steps}
use Rattle.sq_base.specs.Replies.{without_last_cr}
use Rattle.sq_reply.proofs.WordLaws.{without_cr_last}
use Rattle.sq_reply.proofs.reading.without_cr.Goals as goal

pub returns-in_default : goal.returns-in_default
unfolding without_last_cr
returns-in_default c = grind (arith, common_steps)

pub returns-then-last-eq13 : goal.returns-then-last-eq13
returns-then-last-eq13 c = grind (arith, common_steps, without_cr_last)

pub returns-else-last-eq13 : goal.returns-else-last-eq13
returns-else-last-eq13 c = grind (arith, common_steps, without_cr_last)
