use Rattle.std.proofs.Common.{◌∙◌, ap, sym}
use Rattle.sq_base.specs.Ranges.{in_range}
use Rattle.sq_urlmatch.proofs.SearchLaws.{both_more, none_more}
use Rattle.sq_urlmatch.specs.Spans.{in_part, in_span, in_spans}
use Rattle.sq_urlmatch.proofs.spans.parts.Goals.{in-Some+in_ok-push, in_default}
use Rattle.sq_urlmatch.proofs.spans.parts.Goals as goal

pub loop-range-preserved : goal.loop-range-preserved
loop-range-preserved c = λ n below.
    let ranges = c.args.ranges.now in
    let i = c.loop-range.range-index in
    let range = c.range-item.result in
    let within = c.loop-range-test.true in
    let so_far = c.loop-range.invariant n below in
    let part = c.part_of.ensures n below in
    elim c.match-part_of.branch [
      | in-Some+in_ok-push w ↦
          ap (λ l. in_spans l n) (ap (λ v. v.items) w.spans-is ∙ w.in_ok-push.ensures.items)
          ∙ both_more (λ s. in_span s n) (λ r. in_range r (record { v6 = c.args.v6; number = n }))
          c.loop-range.spans.items w.in-Some.span ranges i range within c.range-item.is
          (sym (ap (λ o. in_part o n) w.in-Some.is) ∙ part) so_far
      | in_default w ↦
          ap (λ v. in_spans v.items n) w.spans-is
          ∙ none_more (λ r. in_range r (record { v6 = c.args.v6; number = n })) ranges i range
          (in_spans c.loop-range.spans.items n) within c.range-item.is
          (w.in_default.ensures n below) so_far
    ]
