use Rattle.std.proofs.Common.{codes}
use Rattle.sq_journal.specs.Printing.{piece_text}
use Rattle.sq_journal.proofs.PutLaws.{puts_then, puts_stop}
use Rattle.sq_journal.proofs.printing.put_spaced.Goals as goal

pub returns-in-Err : goal.returns-in-Err
returns-in-Err g c = puts_stop _ _ _ _ _ _ (codes " ") (piece_text c.args.piece.now) c.in-Err.ensures

pub returns : goal.returns
returns g c = puts_then _ _ _ _ _ _ _ _ (codes " ") (piece_text c.args.piece.now) c.in-Ok.ensures c.put_piece.ensures
