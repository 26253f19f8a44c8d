use Rattle.std.proofs.Common.{◌∙◌}
use Rattle.sq_request.proofs.MethodLaws.{no_method}
use Rattle.sq_request.proofs.WrittenLaws.{written_method, line_differs, fields_decide}
use Rattle.sq_request.proofs.making.is_written.Goals as goal

pub returns-then-is_none : goal.returns-then-is_none
returns-then-is_none c = (
  λ h. absurd (cc),
  λ w. no_method c.args.method.now c.in_ok-read_method.field-0
      (written_method c.args.method.now c.args.target.now c.args.minor c.args.fields.now w)
      c.in_ok-read_method.ensures c.if-is_none.ensures,
)

pub returns-then-not-has_line : goal.returns-then-not-has_line
returns-then-not-has_line c = (
  λ h. absurd (cc),
  line_differs c.as_bytes-head.result.now c.parse_whole.new.room c.in-Some.spans c.args.method.now c.args.target.now
      c.args.minor c.args.fields.now c.has_line.result c.in-Some.ensures.found
      (c.as_bytes-head.ensures.value ∙ c.in_ok-head.ensures) c.has_line.ensures c.if-not-has_line.true,
)

pub returns : goal.returns
returns c =
    fields_decide c.as_bytes-head.result.now c.parse_whole.new.room c.in-Some.spans c.args.method.now c.args.target.now
    c.args.minor c.args.fields.now c.has_line.result c.are_covered.result c.in-Some.ensures.found
    (c.as_bytes-head.ensures.value ∙ c.in_ok-head.ensures) c.has_line.ensures c.if-not-has_line.false
    c.are_covered.ensures
