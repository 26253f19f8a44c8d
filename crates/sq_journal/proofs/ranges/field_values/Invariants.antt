use Rattle.std.proofs.Common.{All, take}
use Rattle.sq_journal.specs.Values.{IsField}
use Rattle.sq_journal.proofs.ranges.field_values.Given as goal

-- each field so far is of bytes
abbrev pub invariant-loop-field : goal.invariant-loop-field
invariant-loop-field l = All IsField (take l.field-index l.fields)
