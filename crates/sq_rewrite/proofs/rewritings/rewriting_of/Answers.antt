use Rattle.std.proofs.Common.{sym, subst}
use Rattle.sq_rewrite.specs.Rewritings.{MayBecome}
use Rattle.sq_rewrite.proofs.WorkLaws.{reply_fits}
use Rattle.sq_rewrite.proofs.rewritings.rewriting_of.Goals as goal

pub returns-clause-fits : goal.returns-clause-fits
returns-clause-fits c = subst (MayBecome c.args.request.now) (sym c.in_ok-rewriting.ensures)
    (reply_fits c.args.reply.now c.args.request.now)
