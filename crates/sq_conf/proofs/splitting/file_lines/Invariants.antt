use Rattle.std.proofs.Common.{◌≡◌, ◌++◌, drop, All, false}
use Rattle.std.specs.List.{slice_split}
use Rattle.sq_base.specs.Lines.{is_lf, trimmed_lines}
use Rattle.sq_conf.proofs.splitting.file_lines.Given as goal

-- the lines so far, then those of the piece under way and the rest, are all; the piece has no LF
abbrev pub invariant-loop-byte : goal.invariant-loop-byte
invariant-loop-byte l =
    (l.lines ++ trimmed_lines (slice_split is_lf (l.line ++ drop l.byte-index l.text))
    ≡ trimmed_lines (slice_split is_lf l.text)) × All (λ b. is_lf b ≡ false) l.line
