use Rattle.std.proofs.Common.{◌≡◌, drop}
use Rattle.sq_commands.specs.Requests.{is_even_before, is_even_key}
use Rattle.sq_commands.proofs.rehearsed_requests.is_even_key.Given as goal

-- the bytes that are left say the same, after the one before them
abbrev pub invariant-loop-byte : goal.invariant-loop-byte
invariant-loop-byte l = is_even_before l.even (drop l.byte-index l.key) ≡ is_even_key l.key
