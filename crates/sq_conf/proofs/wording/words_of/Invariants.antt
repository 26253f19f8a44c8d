use Rattle.std.proofs.Common.{drop}
use Rattle.sq_conf.proofs.WordLaws.{WordsSoFar}
use Rattle.sq_conf.proofs.wording.words_of.Given as goal

abbrev pub invariant-loop-byte : goal.invariant-loop-byte
invariant-loop-byte l = WordsSoFar l.words l.word (drop l.byte-index l.line) l.line
