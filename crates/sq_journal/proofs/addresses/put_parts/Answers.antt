use Rattle.std.proofs.Common.{◌++◌, codes}
use Rattle.std.specs.Net.Text.{groups_text}
use Rattle.sq_journal.proofs.PutLaws.{puts_then, puts_stop}
use Rattle.sq_journal.proofs.addresses.put_parts.Goals as goal

pub returns-in-Err : goal.returns-in-Err
returns-in-Err g c = puts_stop _ _ _ _ _ _ (groups_text c.args.head.now) (codes "::" ++ groups_text c.args.tail.now)
    c.in-Err.ensures

pub returns-in-Err-put : goal.returns-in-Err-put
returns-in-Err-put g c =
    puts_then _ _ _ _ _ _ _ _ (groups_text c.args.head.now) (codes "::" ++ groups_text c.args.tail.now) c.in-Ok.ensures
    (puts_stop _ _ _ _ _ _ (codes "::") (groups_text c.args.tail.now) c.in-Err-put.ensures)

pub returns : goal.returns
returns g c =
    puts_then _ _ _ _ _ _ _ _ (groups_text c.args.head.now) (codes "::" ++ groups_text c.args.tail.now) c.in-Ok.ensures
    (puts_then _ _ _ _ _ _ _ _ (codes "::") (groups_text c.args.tail.now) c.in-Ok-put.ensures c.put_groups-2.ensures)
