use Rattle.std.proofs.Common.{◌≡◌, map, take}
use Rattle.httparse.specs.Spans.{header_bytes}
use Rattle.sq_request.specs.Spans.{field_pair}
use Rattle.sq_request.proofs.making.are_covered.Given as goal

-- the spans so far cover the fields so far
abbrev pub invariant-loop-i : goal.invariant-loop-i
invariant-loop-i l = map (header_bytes l.head) (take l.i l.spans) ≡ map field_pair (take l.i l.fields)
