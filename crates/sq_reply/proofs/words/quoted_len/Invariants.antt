use Rattle.std.proofs.Common.{◌≡◌, drop, false}
use Rattle.sq_base.specs.Replies.{quoted_len}
use Rattle.sq_reply.proofs.QuoteLaws.{front}
use Rattle.sq_reply.proofs.words.quoted_len.Given as goal

-- the quote stands this far, and on from here
abbrev pub invariant-loop-i : goal.invariant-loop-i
invariant-loop-i l = front l.i (quoted_len l.after (drop l.i l.bytes)) ≡ quoted_len false l.bytes
