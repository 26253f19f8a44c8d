use Rattle.std.proofs.Common.{◌∷◌, ap, subst, ◌∙◌}
use Rattle.sq_dst.proofs.AnswerLaws.{hands_reply}
use Rattle.sq_dst.specs.LookupAcls.{reply_text}
use Rattle.sq_keeper.specs.Handing.{Adds}
use Rattle.sq_keeper.specs.Walk.{closing}
use Rattle.sq_keeper.specs.declared.desk.Handed.TheVariants.{Line}
use Rattle.sq_dst.proofs.answering.answer.Goals as goal

pub returns-clause-hands : goal.returns-clause-hands
returns-clause-hands g c =
    let old = g.K.LineDesk.handed c.args.desk.now in
    let new = g.K.LineDesk.handed c.hand.new.desk in
    hands_reply c.args.config.now (g.Q.Resolver.names c.args.resolver.now) (g.Q.Resolver.faults c.args.resolver.now)
    (g.Q.Resolver.faults c.find-found.new.resolver) c.args.proc c.args.question.now c.reply-text.result
    c.find-found.result old new c.hand.result c.find-found.ensures.found
    (c.reply-text.ensures ∙ ap (reply_text c.args.config.now c.args.question.now) c.as_ref.ensures.value)
    (subst (λ t. Adds old new (Line c.args.proc t ∷ closing c.args.proc c.hand.result)) c.as_bytes.ensures.value
    c.hand.ensures.adds)
