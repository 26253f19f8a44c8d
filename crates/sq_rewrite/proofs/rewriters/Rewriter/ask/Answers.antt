use Rattle.std.proofs.Common.{rules, suc}
use Rattle.sq_rewrite.specs.Calls.{Asked}
use Rattle.sq_rewrite.proofs.RunLaws.{reached_after}
use Rattle.sq_rewrite.proofs.rewriters.Rewriter.ask.Goals as goal

pub invariant_of-self-in-Ok : goal.invariant_of-self-in-Ok
invariant_of-self-in-Ok c = reached_after (Asked c.args.request.now c.args.addr (suc c.self.inside.asked)) _ _
    c.self.invariant (search rules) (search rules)
