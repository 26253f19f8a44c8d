use Rattle.std.proofs.Common.{inr, refl, ◌∙◌}
use Rattle.sq_turns.specs.declared.ends.Carried.TheVariants.{Closes}
use Rattle.sq_turns.proofs.OwnReplyLaws.{tells_nothing, tells_same}
use Rattle.sq_turns.proofs.own_replies.say.Goals as goal

pub returns-in_default-clause-tells : goal.returns-in_default-clause-tells
returns-in_default-clause-tells g c = record { is = tells_nothing _ _ }

pub write_reply-requires : goal.write_reply-requires
write_reply-requires g c = record { plain = inr refl }

pub returns-clause-tells : goal.returns-clause-tells
returns-clause-tells g c = tells_same _ _ Closes Closes (c.as_bytes.ensures.value ∙ c.in-Ok.ensures.text) refl
    c.write_reply.ensures.tells
