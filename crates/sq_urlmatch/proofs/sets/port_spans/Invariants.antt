use Rattle.std.proofs.Common.{◌≡◌, ℕ, take}
use Rattle.sq_urlmatch.specs.Spans.{in_spans}
use Rattle.sq_urlmatch.specs.Values.{in_some_ports}
use Rattle.sq_urlmatch.proofs.sets.port_spans.Given as goal

-- the spans so far hold what the ranges so far hold
abbrev pub invariant-loop-range : goal.invariant-loop-range
invariant-loop-range l = (n : ℕ) → in_spans l.spans.items n ≡ in_some_ports (take l.range-index l.ports) n
