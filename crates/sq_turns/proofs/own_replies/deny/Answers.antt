use Rattle.std.proofs.Common.{inl, inr, refl, sym, ap, ◌∙◌}
use Rattle.sq_turns.specs.Turns.{stays_unless}
use Rattle.sq_turns.specs.declared.ends.Carried.TheVariants.{Stays, Closes}
use Rattle.sq_turns.proofs.OwnReplyLaws.{tells_nothing, tells_same}
use Rattle.sq_turns.proofs.own_replies.deny.Goals as goal

pub returns-in_default-clause-tells : goal.returns-in_default-clause-tells
returns-in_default-clause-tells g c = record { is = tells_nothing _ _ }

pub write_reply-requires : goal.write_reply-requires
write_reply-requires g c = record { plain = inr refl }

pub write_reply-requires-else-closes : goal.write_reply-requires-else-closes
write_reply-requires-else-closes g c = record { plain = inl refl }

pub returns-then-closes-clause-tells : goal.returns-then-closes-clause-tells
returns-then-closes-clause-tells g c = tells_same _ _ Closes _ (c.as_bytes.ensures.value ∙ c.in-Ok.ensures.text)
    (sym (ap stays_unless c.if-closes.true)) c.write_reply.ensures.tells

pub returns-clause-tells : goal.returns-clause-tells
returns-clause-tells g c = tells_same _ _ Stays _ (c.as_bytes-else-closes.ensures.value ∙ c.in-Ok.ensures.text)
    (sym (ap stays_unless c.if-closes.false)) c.write_reply-else-closes.ensures.tells
