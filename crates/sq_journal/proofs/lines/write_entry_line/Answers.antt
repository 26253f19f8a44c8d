use Rattle.std.proofs.Common.{◌∷◌, []}
use Rattle.sq_journal.specs.Journals.{numbered_text}
use Rattle.sq_journal.proofs.PutLaws.{puts_then, puts_stop}
use Rattle.sq_journal.proofs.lines.write_entry_line.Goals as goal

pub returns-in-Err : goal.returns-in-Err
returns-in-Err g c = puts_stop _ _ _ _ _ _ (numbered_text c.args.number c.args.epoch c.args.entry.now) (10 ∷ [])
    c.in-Err.ensures

pub returns : goal.returns
returns g c = puts_then _ _ _ _ _ _ _ _ (numbered_text c.args.number c.args.epoch c.args.entry.now) (10 ∷ [])
    c.in-Ok.ensures c.put.ensures
