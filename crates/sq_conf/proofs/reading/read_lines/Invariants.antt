use Rattle.std.proofs.Common.{◌≡◌, drop}
use Rattle.sq_rules.specs.ConfText.{lines_read}
use Rattle.sq_conf.proofs.reading.read_lines.Given as goal

-- the drafts so far, and the lines that are left
abbrev pub invariant-loop-line : goal.invariant-loop-line
invariant-loop-line l = lines_read l.builder (drop l.line-index l.lines) ≡ lines_read l.fn.builder l.lines
