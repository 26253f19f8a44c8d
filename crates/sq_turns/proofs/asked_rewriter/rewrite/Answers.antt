use Rattle.std.proofs.Common.{◌≡◌, subst}
use Rattle.sq_rules.specs.declared.sights.Sight.{Sight}
use Rattle.sq_rewrite.specs.Rewritings.{MayBecome}
use Rattle.sq_turns.specs.Judging.{rewritten_of}
use Rattle.sq_turns.specs.Tellings.{SaysRewriter}
use Rattle.sq_turns.proofs.RewriteLaws.{tells_never, tells_none, tells_rewritten, tells_unput}
use Rattle.sq_turns.proofs.asked_rewriter.rewrite.Goals as goal

pub returns-then-not-rewrites-clause-told : goal.returns-then-not-rewrites-clause-told
returns-then-not-rewrites-clause-told g c =
    tells_none c.args.judged.now (g.H.Hub.told c.args.hub.now)
    (subst (λ b. SaysRewriter b (g.H.Hub.told c.args.hub.now)) c.if-not-rewrites.true c.rewrites.ensures.told)

pub returns-in-Err-clause-told : goal.returns-in-Err-clause-told
returns-in-Err-clause-told g c = tells_unput c.args.judged.now c.in-Err.fault c.unasked.result _ _
    c.unasked.ensures.said c.in-Err.ensures.told

pub returns-in-Ok-take-clause-told : goal.returns-in-Ok-take-clause-told
returns-in-Ok-take-clause-told g c =
    tells_rewritten c.args.judged.now c.in-Ok.question c.in-Ok-take.rewriting c.checked.result _ _ _
    (subst (λ (x : Sight). MayBecome x.request c.in-Ok-take.rewriting
    → c.checked.result ≡ rewritten_of c.in-Ok-take.rewriting) c.sight.ensures c.checked.ensures.same)
    c.in-Ok.ensures.told c.in-Ok-take.ensures.told

pub returns-in-Err-take-clause-told : goal.returns-in-Err-take-clause-told
returns-in-Err-take-clause-told g c =
    tells_never c.args.judged.now c.in-Ok.question c.in-Err-take.fault c.unasked-in-Err-take.result _ _ _
    c.in-Ok.ensures.told c.in-Err-take.ensures.told
