use Rattle.std.proofs.Common.{ap}
use Rattle.sq_base.specs.declared.requests.Field.{Field}
use Rattle.sq_turns.proofs.SameLaws.{field_same}
use Rattle.sq_turns.proofs.same.same_field.Goals as goal

pub returns : goal.returns
returns c = (
  λ e. field_same _ _ (c.same_text.ensures.0 c.if-not-same_text.false) (c.same_text-2.ensures.0 e),
  λ e. c.same_text-2.ensures.1 (ap Field.value e),
)
