use Rattle.std.proofs.Common.{rules}
use Rattle.sq_forward.proofs.PayLaws.{pays_nothing}
use Rattle.sq_forward.proofs.replies.pass_on.Goals as goal

pub returns-in_default-clause-sends : goal.returns-in_default-clause-sends
returns-in_default-clause-sends g c = pays_nothing _ _ _ _ (search (rules, g.M.laws))
