use Rattle.std.proofs.Common.{map, drop}
use Rattle.sq_journal.specs.EntryText.{field_word}
use Rattle.sq_journal.specs.Lines.{after_spaces}
use Rattle.sq_journal.specs.Putting.{Halfway}
use Rattle.sq_journal.proofs.printing.put_fields.Given as goal

-- the words so far are put, and the others are to come
abbrev pub invariant-loop-field : goal.invariant-loop-field
invariant-loop-field g l =
    Halfway (g.O.Sink.contents l.fn.to) (g.O.Sink.contents l.to) (g.O.Sink.faults l.fn.to) (g.O.Sink.faults l.to)
    (after_spaces (map field_word l.fields)) (after_spaces (map field_word (drop l.field-index l.fields)))
