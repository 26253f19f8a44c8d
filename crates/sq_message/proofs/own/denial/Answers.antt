use Rattle.std.proofs.Common.{◌≡◌, ◌∙◌, IfOk, codes, subst}
use Rattle.sq_message.specs.OwnReplies.{own_reply, outcome_text, denial}
use Rattle.sq_message.proofs.StatusLaws.{forbidden}
use Rattle.sq_message.proofs.own.denial.Goals as goal

pub returns : goal.returns
unfolding denial
returns c =
    let words : c.as_bytes.result.now ≡ outcome_text c.args.outcome.now = c.as_bytes.ensures.value
    ∙ c.in_ok-line.ensures in
    record {
      text =
          subst (λ w. IfOk c.own_reply.result
          (λ t. t ≡ own_reply (codes "403 Forbidden") w c.args.no_body c.args.closes)) words
          (subst (λ s. IfOk c.own_reply.result
          (λ t. t ≡ own_reply s c.as_bytes.result.now c.args.no_body c.args.closes)) forbidden c.own_reply.ensures);
    }
