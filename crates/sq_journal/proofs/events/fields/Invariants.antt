use Rattle.std.proofs.Common.{◌≡◌, ◌++◌, length}
use Rattle.sq_journal.specs.Reading.{fields_from}
use Rattle.sq_journal.proofs.events.fields.Given as goal

-- the fields so far, and those of the words that are left
abbrev pub invariant-loop-word : goal.invariant-loop-word
invariant-loop-word l = (l.fields ++ (fields_from l.words).0, (fields_from l.words).1) ≡ fields_from l.fn.words

abbrev pub decreases-loop-word : goal.decreases-loop-word
decreases-loop-word l = length l.words
