use Rattle.std.proofs.Common.{◌<◌, ◌∙◌, IsTrue, length, arith, sym, subst, ap}
use Rattle.sq_request.proofs.WrittenLaws.{map_at}
use Rattle.sq_request.specs.Spans.{field_pair}
use Rattle.sq_request.proofs.making.are_covered.Goals as goal

pub returns-then-not-is_covered : goal.returns-then-not-is_covered
returns-then-not-is_covered c = (
  λ h. absurd (cc),
  λ same.
      let below : c.loop-i.i < length c.args.fields.now = omega arith in
      let here = map_at _ _ c.args.spans.now c.args.fields.now c.loop-i.i _ c.index-fields-i.result same
      c.loop-i-test.true below in
      subst IsTrue c.if-not-is_covered.true (c.is_covered.ensures.1 (here ∙ ap field_pair (sym c.index-fields-i.is))),
)
