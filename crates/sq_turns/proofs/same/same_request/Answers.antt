use Rattle.std.proofs.Common.{sym, ap, ◌∙◌, arith}
use Rattle.sq_base.specs.Requests.{HttpRequest}
use Rattle.sq_turns.proofs.SameLaws.{request_same}
use Rattle.sq_turns.proofs.same.same_request.Goals as goal

pub returns : goal.returns
returns c = (
  λ e. sym c.one.view_is ∙ request_same _ _ c.one.invariant c.other.invariant
      (c.same_text.ensures.0 c.if-not-same_text.false) (c.same_text-2.ensures.0 c.if-not-same_text-2.false)
      (search (arith, c.if-one-other.false)) (c.same_fields.ensures.0 e) ∙ c.other.view_is,
  λ e. c.same_fields.ensures.1 (ap HttpRequest.fields (c.one.view_is ∙ e ∙ sym c.other.view_is)),
)
