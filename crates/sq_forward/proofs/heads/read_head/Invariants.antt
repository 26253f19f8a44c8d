use Rattle.std.proofs.Common.{◌≡◌, ◌≤◌, ◌+◌, length, max, take}
use Rattle.std.specs.Io.KnownBytes.{Keeps, prepend_known}
use Rattle.sq_message.specs.ReplyHeads.{most_bytes}
use Rattle.sq_forward.specs.Halves.{read_limit}
use Rattle.sq_forward.specs.Searching.{IsSought}
use Rattle.sq_forward.proofs.heads.read_head.Given as goal

-- all that came is ahead, and was looked at up to the last read
abbrev pub invariant-loop : goal.invariant-loop
invariant-loop g l =
    let left = g.S.Source.left in
    record {
      kept : Keeps (prepend_known l.fn.from.ahead (left l.fn.from.source))
          (prepend_known l.from.ahead (left l.from.source));
      later : g.S.Source.faults l.fn.from.source ≤ g.S.Source.faults l.from.source;
      origin : g.S.Source.origin l.from.source ≡ g.S.Source.origin l.fn.from.source;
      few : length l.from.ahead ≤ max (length l.fn.from.ahead) (most_bytes + read_limit);
      within : l.search.at ≤ length l.from.ahead;
      sought : IsSought (take l.search.at l.from.ahead) l.search.begun l.search.line;
    }
