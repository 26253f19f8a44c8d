use Rattle.sq_journal.specs.Journals.{numbered_line, version_line}
use Rattle.sq_journal.proofs.PutLaws.{puts_then, puts_stop}
use Rattle.sq_journal.proofs.lines.write_first.Goals as goal

pub returns-in-Err : goal.returns-in-Err
returns-in-Err g c = puts_stop _ _ _ _ _ _ version_line (numbered_line c.args.number c.args.epoch c.args.entry.now)
    c.in-Err.ensures

pub returns : goal.returns
returns g c = puts_then _ _ _ _ _ _ _ _ version_line (numbered_line c.args.number c.args.epoch c.args.entry.now)
    c.in-Ok.ensures c.write_entry_line.ensures
