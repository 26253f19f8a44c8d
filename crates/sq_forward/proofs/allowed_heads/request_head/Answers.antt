use Rattle.std.proofs.Common.{◌≡◌, IfOk, false, subst}
use Rattle.sq_message.specs.RequestHeads.{head_out_where}
use Rattle.sq_forward.proofs.AccessLaws.{tests_at}
use Rattle.sq_forward.proofs.allowed_heads.request_head.Goals as goal

pub returns-clause-text : goal.returns-clause-text
returns-clause-text c = λ s seen.
    subst (λ test. IfOk c.head_out_where.result
    (λ t. t ≡ head_out_where test c.args.request.now c.args.addr c.args.plan))
    (tests_at c.args.config.now c.args.facts.now s false c.facts.ensures seen) c.head_out_where.ensures.text
