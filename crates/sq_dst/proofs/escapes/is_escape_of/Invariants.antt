use Rattle.std.proofs.Common.{◌≡◌, bytes_eq}
use Rattle.percent_encoding.specs.Iter.{encoded_text}
use Rattle.sq_rules.specs.Keys.{key_escaped}
use Rattle.sq_dst.proofs.escapes.is_escape_of.Given as goal

-- what is left of the word is compared with what is to come
abbrev pub invariant-loop-piece : goal.invariant-loop-piece
invariant-loop-piece l = bytes_eq l.rest (encoded_text l.piece-iterator) ≡ bytes_eq l.word (key_escaped l.bytes)
