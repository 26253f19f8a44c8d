use Rattle.std.proofs.Common.{◌≡◌, ◌++◌, drop}
use Rattle.std.specs.List.{flat_map}
use Rattle.sq_commands.specs.ParseText.{notice_line}
use Rattle.sq_commands.proofs.parsing.parse_text.Given as goal

-- the lines of the notices so far
abbrev pub invariant-loop-notice : goal.invariant-loop-notice
invariant-loop-notice l = l.text ++ flat_map notice_line (drop l.notice-index l.notices)
    ≡ flat_map notice_line l.notices
