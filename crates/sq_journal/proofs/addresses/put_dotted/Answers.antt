use Rattle.std.proofs.Common.{codes, decimal}
use Rattle.sq_journal.proofs.PutLaws.{puts_then, puts_stop}
use Rattle.sq_journal.proofs.addresses.put_dotted.Goals as goal

pub returns-in-Err : goal.returns-in-Err
returns-in-Err g c = puts_stop _ _ _ _ _ _ (decimal c.args.number) (codes ".") c.in-Err.ensures

pub returns : goal.returns
returns g c = puts_then _ _ _ _ _ _ _ _ (decimal c.args.number) (codes ".") c.in-Ok.ensures c.put.ensures
