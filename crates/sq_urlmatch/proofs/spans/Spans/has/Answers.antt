use Rattle.std.proofs.Common.{◌≡◌, ◌-◌, ltb, leb, ap, arith, rules, subst, sym, ◌∙◌, get_or}
use Rattle.std.proofs.lemmas.Bool.{and_left, le-ltb, lt-ltb}
use Rattle.std.proofs.lemmas.List.Sorted.{IsPartitionPoint-from_clause}
use Rattle.sq_urlmatch.proofs.MergeLaws.{apart_parted, span_decides}
use Rattle.sq_urlmatch.specs.Spans.{in_span, in_spans, AreApart}
use Rattle.sq_urlmatch.specs.declared.spans.Span.{Span}
use Rattle.sq_urlmatch.proofs.spans.Spans.has.Goals as goal

pub returns-then-begun-gt0 : goal.returns-then-begun-gt0
returns-then-begun-gt0 c =
    let spans = c.as_slice-spans.result.now in
    let p = c.partition_point-begun.result in
    let n = c.args.number in
    let d : Span = record { first = 0; last = 0 } in
    let apart = subst (λ l. AreApart l) (sym c.as_slice-spans.ensures.value) c.self.invariant in
    let point = IsPartitionPoint-from_clause (λ (s : Span). leb s.first n) spans p
    c.partition_point-begun.ensures.partitioned (apart_parted spans n apart) (λ a r q k. search rules) in
    let decides = span_decides spans p n d apart c.partition_point-begun.ensures.bound point in
    let begun = point.0 (p - 1) d (omega arith) (omega arith) in
    let found : in_spans spans n ≡ leb n (get_or spans (p - 1) d).last = rw (lt-ltb 0 p c.if-begun-gt0.true, begun)
    at decides in
    sym found ∙ ap (λ l. in_spans l n) (c.as_slice-spans.ensures.value ∙ c.self.view_is)

pub returns-else-begun-gt0 : goal.returns-else-begun-gt0
returns-else-begun-gt0 c =
    let spans = c.as_slice-spans.result.now in
    let p = c.partition_point-begun.result in
    let n = c.args.number in
    let d : Span = record { first = 0; last = 0 } in
    let apart = subst (λ l. AreApart l) (sym c.as_slice-spans.ensures.value) c.self.invariant in
    let point = IsPartitionPoint-from_clause (λ (s : Span). leb s.first n) spans p
    c.partition_point-begun.ensures.partitioned (apart_parted spans n apart) (λ a r q k. search rules) in
    let decides = span_decides spans p n d apart c.partition_point-begun.ensures.bound point in
    let none = le-ltb 0 p c.if-begun-gt0.false in
    none ∙ sym (decides ∙ and_left (ltb 0 p) (in_span (get_or spans (p - 1) d) n) none)
    ∙ ap (λ l. in_spans l n) (c.as_slice-spans.ensures.value ∙ c.self.view_is)
