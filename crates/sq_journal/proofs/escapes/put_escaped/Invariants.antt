use Rattle.percent_encoding.specs.Iter.{encoded_text}
use Rattle.sq_journal.specs.Putting.{Halfway}
use Rattle.sq_journal.proofs.escapes.put_escaped.Given as goal

-- the pieces so far are put, and the others are to come
abbrev pub invariant-loop-piece : goal.invariant-loop-piece
invariant-loop-piece g l =
    Halfway (g.O.Sink.contents l.fn.to) (g.O.Sink.contents l.to) (g.O.Sink.faults l.fn.to) (g.O.Sink.faults l.to)
    (encoded_text l.initial.piece-iterator) (encoded_text l.piece-iterator)
