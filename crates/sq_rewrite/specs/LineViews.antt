-- The rewriter of a keeper, and what the keeper counted; the number of a process,
-- the moment of its start, and its half; the process whose half was put for a keeper.
use Rattle.std.specs.Prelude.{ℕ}
use Rattle.sq_rewrite.specs.declared.board.PlacedHalf.{PlacedHalf}
use Rattle.sq_rewrite.specs.declared.lines.RewriterLines.{RewriterLines}
use Rattle.sq_rewrite.specs.declared.unread.UnreadHalf.{UnreadHalf}

abbrev pub lines_rewriter : {K C : Type 0} → RewriterLines K C → K
lines_rewriter s = s.rewriter

abbrev pub lines_refused : {K C : Type 0} → RewriterLines K C → ℕ
lines_refused s = s.refused

abbrev pub half_proc : {P : Type 0} → UnreadHalf P → ℕ
half_proc half = half.proc

abbrev pub half_since : {P : Type 0} → UnreadHalf P → ℕ
half_since half = half.since

abbrev pub half_from : {P : Type 0} → UnreadHalf P → P
half_from half = half.from

abbrev pub placed_proc : PlacedHalf → ℕ
placed_proc placed = placed.proc
