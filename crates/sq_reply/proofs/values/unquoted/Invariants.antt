use Rattle.std.proofs.Common.{◌≡◌, ◌++◌, drop, false}
use Rattle.sq_base.specs.Replies.{unquoted}
use Rattle.sq_reply.proofs.values.unquoted.Given as goal

-- what is read, and what the rest stands for, is the whole
abbrev pub invariant-loop-byte : goal.invariant-loop-byte
invariant-loop-byte l = l.text ++ unquoted l.after (drop l.byte-index l.bytes) ≡ unquoted false l.bytes
