use Rattle.std.proofs.Common.{◌≡◌, ℕ, ◌<◌, ◌≤◌, ◌||◌, length, get_or, take}
use Rattle.std.specs.List.{All}
use Rattle.sq_urlmatch.specs.Spans.{in_span, in_spans, AreApart, IsBefore}
use Rattle.sq_urlmatch.specs.declared.spans.Span.{Span}
use Rattle.sq_urlmatch.proofs.spans.apart_from.Given as goal

-- The spans so far and the open one hold what was read so far; all are apart, and the open one begins no
-- later than what is left.
abbrev pub invariant-loop-span : goal.invariant-loop-span
invariant-loop-span l = record {
  same : (n : ℕ) → (in_spans l.spans.items n || in_span l.open n)
      ≡ (in_span l.fn.first n || in_spans (take l.span-index l.rest) n);
  apart : AreApart l.spans.items;
  before : All (λ s. IsBefore s l.open) l.spans.items;
  low : (k : ℕ) (d : Span) → l.span-index ≤ k → k < length l.rest → l.open.first ≤ (get_or l.rest k d).first;
}
