use Rattle.std.proofs.Common.{◌≡◌, ℕ, ◌<◌, ◌^◌, take}
use Rattle.sq_urlmatch.specs.Members.{in_some_range}
use Rattle.sq_urlmatch.specs.Spans.{in_spans}
use Rattle.sq_urlmatch.proofs.spans.parts.Given as goal

-- the spans so far hold what the ranges so far hold
abbrev pub invariant-loop-range : goal.invariant-loop-range
invariant-loop-range l = (n : ℕ) → n < 2 ^ 128
    → in_spans l.spans.items n ≡ in_some_range (take l.range-index l.ranges) (record { v6 = l.v6; number = n })
