use Rattle.std.proofs.Common.{◌≡◌, ◌∙◌, IfOk, true, ap, subst}
use Rattle.sq_message.specs.OwnReplies.{own_status, own_reply, error_text}
use Rattle.sq_message.specs.Statuses.{status_words}
use Rattle.sq_message.proofs.StatusLaws.{own_statuses}
use Rattle.sq_message.proofs.own.error_text.Goals as goal

pub returns : goal.returns
unfolding error_text
returns c =
    let status : status_words c.status_of.result ≡ own_status c.args.own = ap status_words c.status_of.ensures
    ∙ own_statuses c.args.own in
    record {
      text =
          subst (λ w. IfOk c.own_reply.result (λ t. t ≡ own_reply (own_status c.args.own) w c.args.no_body true))
          c.words_of.ensures
          (subst (λ s. IfOk c.own_reply.result (λ t. t ≡ own_reply s c.words_of.result.now c.args.no_body true)) status
          c.own_reply.ensures);
    }
