use Rattle.std.proofs.Common.{◌++◌, codes, decimal}
use Rattle.sq_journal.specs.EntryText.{entry_text}
use Rattle.sq_journal.proofs.PutLaws.{puts_then, puts_stop}
use Rattle.sq_journal.proofs.numbered.write_numbered.Goals as goal

pub returns-in-Err : goal.returns-in-Err
returns-in-Err g c =
    puts_stop _ _ _ _ _ _ (decimal c.args.number)
    ((codes " " ++ decimal c.args.epoch) ++ (codes " " ++ entry_text c.args.entry.now)) c.in-Err.ensures

pub returns-in-Err-put_epoch : goal.returns-in-Err-put_epoch
returns-in-Err-put_epoch g c =
    puts_then _ _ _ _ _ _ _ _ (decimal c.args.number)
    ((codes " " ++ decimal c.args.epoch) ++ (codes " " ++ entry_text c.args.entry.now)) c.in-Ok.ensures
    (puts_stop _ _ _ _ _ _ (codes " " ++ decimal c.args.epoch) (codes " " ++ entry_text c.args.entry.now)
    c.in-Err-put_epoch.ensures)

pub returns-in-Err-put : goal.returns-in-Err-put
returns-in-Err-put g c =
    puts_then _ _ _ _ _ _ _ _ (decimal c.args.number)
    ((codes " " ++ decimal c.args.epoch) ++ (codes " " ++ entry_text c.args.entry.now)) c.in-Ok.ensures
    (puts_then _ _ _ _ _ _ _ _ (codes " " ++ decimal c.args.epoch) (codes " " ++ entry_text c.args.entry.now)
    c.in-Ok-put_epoch.ensures
    (puts_stop _ _ _ _ _ _ (codes " ") (entry_text c.args.entry.now) c.in-Err-put.ensures))

pub returns : goal.returns
returns g c =
    puts_then _ _ _ _ _ _ _ _ (decimal c.args.number)
    ((codes " " ++ decimal c.args.epoch) ++ (codes " " ++ entry_text c.args.entry.now)) c.in-Ok.ensures
    (puts_then _ _ _ _ _ _ _ _ (codes " " ++ decimal c.args.epoch) (codes " " ++ entry_text c.args.entry.now)
    c.in-Ok-put_epoch.ensures
    (puts_then _ _ _ _ _ _ _ _ (codes " ") (entry_text c.args.entry.now) c.in-Ok-put.ensures c.write_entry.ensures))
