use Rattle.std.proofs.Common.{Err, sym, ap, ◌∙◌, rules}
use Rattle.sq_message.specs.ReplyHeads.{reply_head_out_where}
use Rattle.sq_forward.specs.Access.{access_by}
use Rattle.sq_forward.specs.Leading.{body_sent}
use Rattle.sq_forward.proofs.ReplyLaws.{reply_unplanned, reply_no_memory, reply_begun, reply_starved, reply_sent}
use Rattle.sq_forward.proofs.replies.send_reply.Goals as goal

pub returns-in-Err-clause-sends : goal.returns-in-Err-clause-sends
returns-in-Err-clause-sends g c = reply_unplanned _ c.args.outgoing.now.request.now c.args.head.now _ _ _ _ _
    (search (rules, g.M.laws)) (sym c.in-Err.ensures)

pub returns-in_default-clause-sends : goal.returns-in_default-clause-sends
returns-in_default-clause-sends g c = reply_no_memory _ _ _ _ _ _ _ (search (rules, g.M.laws))

pub returns-in-Err-Failed-clause-sends : goal.returns-in-Err-Failed-clause-sends
returns-in-Err-Failed-clause-sends g c =
    reply_begun (access_by c.args.outgoing.now.config.now c.args.outgoing.now.facts.now) c.args.outgoing.now.request.now
    c.args.head.now c.in-Ok.plan _ _ _ _ _ _ c.as_bytes.result.now (sym c.in-Ok.ensures)
    (c.as_bytes.ensures.value ∙ c.in-Ok-reply_head.ensures.by_facts
    ∙ ap (reply_head_out_where (access_by c.args.outgoing.now.config.now c.args.outgoing.now.facts.now).reply
    c.args.head.now) c.shape_of-shape.ensures)
    (c.in-Err-Failed.ensures.failed (ap Err c.in-Err-Failed.field-0-is))

pub returns-in-Err-Starved-clause-sends : goal.returns-in-Err-Starved-clause-sends
returns-in-Err-Starved-clause-sends g c =
    reply_starved (access_by c.args.outgoing.now.config.now c.args.outgoing.now.facts.now)
    c.args.outgoing.now.request.now c.args.head.now c.in-Ok.plan _ _ _ _ _ _ c.as_bytes.result.now
    (sym c.in-Ok.ensures) (c.as_bytes.ensures.value ∙ c.in-Ok-reply_head.ensures.by_facts
    ∙ ap (reply_head_out_where (access_by c.args.outgoing.now.config.now c.args.outgoing.now.facts.now).reply
    c.args.head.now) c.shape_of-shape.ensures)
    (c.in-Err-Starved.ensures.starved (ap Err c.in-Err-Starved.field-0-is))

pub returns-clause-sends : goal.returns-clause-sends
returns-clause-sends g c =
    reply_sent (access_by c.args.outgoing.now.config.now c.args.outgoing.now.facts.now) c.args.outgoing.now.request.now
    c.args.head.now c.in-Ok.plan c.shape_of-shape.result _ _ _ _ _ _ _ _ _ _
    c.as_bytes.result.now c.copy_body-copied.result c.body_sent.result
    (sym c.in-Ok.ensures) c.shape_of-shape.ensures (c.as_bytes.ensures.value ∙ c.in-Ok-reply_head.ensures.by_facts)
    c.in-Ok-pay.ensures.ok c.pay.ensures.seated c.copy_body-copied.ensures.copies
    (c.body_sent.ensures ∙ ap (λ t. body_sent c.copy_body-copied.result t c.shape_of-shape.result.closes)
    c.is_to_close.ensures)
