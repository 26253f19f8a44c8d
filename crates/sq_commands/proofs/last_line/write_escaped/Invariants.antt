use Rattle.std.proofs.Common.{◌≡◌}
use Rattle.percent_encoding.specs.Iter.{encoded_text}
use Rattle.sq_commands.specs.Pieces.{Halfway}
use Rattle.sq_commands.proofs.last_line.write_escaped.Given as goal

-- the pieces so far are written, and no write failed
abbrev pub invariant-loop-piece : goal.invariant-loop-piece
invariant-loop-piece g l =
    let contents = g.O.Sink.contents in
    let faults = g.O.Sink.faults in
    record {
      going : Halfway (contents l.fn.out) (contents l.out) (encoded_text l.initial.piece-iterator)
          (encoded_text l.piece-iterator);
      quiet : faults l.out ≡ faults l.fn.out;
    }
