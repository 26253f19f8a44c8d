use Rattle.std.proofs.Common.{map, drop}
use Rattle.sq_journal.specs.Lines.{after_spaces}
use Rattle.sq_journal.specs.Printing.{piece_text}
use Rattle.sq_journal.specs.Putting.{Halfway}
use Rattle.sq_journal.proofs.printing.put_pieces.Given as goal

-- the words so far are put, and the others are to come
abbrev pub invariant-loop-piece : goal.invariant-loop-piece
invariant-loop-piece g l =
    Halfway (g.O.Sink.contents l.fn.to) (g.O.Sink.contents l.to) (g.O.Sink.faults l.fn.to) (g.O.Sink.faults l.to)
    (after_spaces (map piece_text l.pieces)) (after_spaces (map piece_text (drop l.piece-index l.pieces)))
