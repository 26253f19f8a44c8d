use Rattle.std.proofs.Common.{◌≡◌, ◌++◌, take}
use Rattle.std.specs.List.{flat_map}
use Rattle.sq_base.specs.Replies.{quoted_byte}
use Rattle.sq_reply.proofs.printing.put_quoted.Given as goal

-- the bytes so far are written
abbrev pub invariant-loop-byte : goal.invariant-loop-byte
invariant-loop-byte l = l.text ≡ l.fn.text ++ flat_map quoted_byte (take l.byte-index l.value)
