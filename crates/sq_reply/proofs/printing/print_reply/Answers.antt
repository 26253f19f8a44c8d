use Rattle.sq_reply.proofs.PrintTrees.{again_from}
use Rattle.sq_reply.proofs.printing.print_reply.Goals as goal

pub returns-clause-again : goal.returns-clause-again
returns-clause-again c =
    again_from c.args.channel c.args.reply.now c.written.result c.requires c.written.ensures.number
    c.written.ensures.text c.written.ensures.small
