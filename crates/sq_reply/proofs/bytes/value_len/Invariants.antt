use Rattle.std.proofs.Common.{◌≡◌, ◌+◌, drop}
use Rattle.std.specs.List.{prefix_len}
use Rattle.sq_base.specs.Replies.{is_value_byte}
use Rattle.sq_reply.proofs.bytes.value_len.Given as goal

-- the front goes this far, and on from here
abbrev pub invariant-loop-i : goal.invariant-loop-i
invariant-loop-i l = l.i + prefix_len is_value_byte (drop l.i l.bytes) ≡ prefix_len is_value_byte l.bytes
