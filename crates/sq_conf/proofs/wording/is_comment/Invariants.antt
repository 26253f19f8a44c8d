use Rattle.std.proofs.Common.{◌≡◌, drop}
use Rattle.sq_base.specs.Lines.{is_comment}
use Rattle.sq_conf.proofs.wording.is_comment.Given as goal

-- only blanks were passed
abbrev pub invariant-loop-byte : goal.invariant-loop-byte
invariant-loop-byte l = is_comment (drop l.byte-index l.line) ≡ is_comment l.line
