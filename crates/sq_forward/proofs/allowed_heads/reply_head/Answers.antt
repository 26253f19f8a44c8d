use Rattle.std.proofs.Common.{◌≡◌, IfOk, true, subst}
use Rattle.sq_message.specs.ReplyHeads.{reply_head_out_where}
use Rattle.sq_forward.proofs.AccessLaws.{tests_at}
use Rattle.sq_forward.proofs.allowed_heads.reply_head.Goals as goal

pub returns-clause-text : goal.returns-clause-text
returns-clause-text c = λ s seen.
    subst (λ test. IfOk c.reply_head_out_where.result
    (λ t. t ≡ reply_head_out_where test c.args.head.now c.args.shape))
    (tests_at c.args.config.now c.args.facts.now s true c.facts.ensures seen) c.reply_head_out_where.ensures.text
