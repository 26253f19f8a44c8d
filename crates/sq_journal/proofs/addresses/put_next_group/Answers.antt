use Rattle.std.proofs.Common.{codes}
use Rattle.std.specs.Net.Text.{hex}
use Rattle.sq_journal.proofs.PutLaws.{puts_then, puts_stop}
use Rattle.sq_journal.proofs.addresses.put_next_group.Goals as goal

pub returns-in-Err : goal.returns-in-Err
returns-in-Err g c = puts_stop _ _ _ _ _ _ (codes ":") (hex c.args.group) c.in-Err.ensures

pub returns : goal.returns
returns g c = puts_then _ _ _ _ _ _ _ _ (codes ":") (hex c.args.group) c.in-Ok.ensures c.put_group.ensures
