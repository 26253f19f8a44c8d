use Rattle.std.proofs.Common.{arith}
use Rattle.sq_commands.proofs.AskLaws.{asks_told}
use Rattle.sq_commands.proofs.rehearsals.rehearse.Goals as goal

pub returns-clause-asks : goal.returns-clause-asks
returns-clause-asks c = asks_told c.args.setup c.args.count c.in_ok-summary.summary (omega arith)
    c.in_ok-summary.ensures
