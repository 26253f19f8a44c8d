use Rattle.std.proofs.Common.{◌≡◌, ◌++◌}
use Rattle.percent_encoding.specs.Iter.{encoded_text}
use Rattle.sq_message.proofs.escaping.put_escaped.Given as goal

-- what was put and what is to come is the whole
abbrev pub invariant-loop-piece : goal.invariant-loop-piece
invariant-loop-piece l = l.to ++ encoded_text l.piece-iterator ≡ l.initial.to ++ encoded_text l.initial.piece-iterator
