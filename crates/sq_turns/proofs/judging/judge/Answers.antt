use Rattle.std.proofs.Common.{Ok, Err, subst}
use Rattle.sq_turns.specs.Tellings.{Asks, Tells}
use Rattle.sq_turns.proofs.JudgeLaws.{tells_fault, tells_nothing, tells_record, tells_unasked}
use Rattle.sq_turns.proofs.judging.judge.Goals as goal

pub returns-in_default-clause-told : goal.returns-in_default-clause-told
returns-in_default-clause-told g c = tells_nothing c.args.conn c.args.request.now (g.H.Hub.told c.args.hub.now)

pub returns-in-Err-clause-told : goal.returns-in-Err-clause-told
returns-in-Err-clause-told g c =
    let asked = subst (λ r. Tells (Asks c.args.conn r (Err c.in-Err.fault)) (g.H.Hub.told c.args.hub.now)
    (g.H.Hub.told c.ask.new.self)) c.in-Ok.ensures c.in-Err.ensures.told in
    tells_unasked c.args.conn c.args.request.now c.in-Err.fault c.decided_of.result _ _ c.decided_of.ensures asked

pub returns-in-Ok-finish-clause-told : goal.returns-in-Ok-finish-clause-told
returns-in-Ok-finish-clause-told g c =
    let asked = subst (λ r. Tells (Asks c.args.conn r (Ok c.in-Ok-ask.check)) (g.H.Hub.told c.args.hub.now)
    (g.H.Hub.told c.ask.new.self)) c.in-Ok.ensures c.in-Ok-ask.ensures.told in
    tells_record c.args.conn c.in-Ok-ask.check c.args.request.now c.in-Ok-finish.judged c.compared.result _ _ _
    c.compared.ensures.same asked c.in-Ok-finish.ensures.told

pub returns-in-Err-finish-clause-told : goal.returns-in-Err-finish-clause-told
returns-in-Err-finish-clause-told g c =
    let asked = subst (λ r. Tells (Asks c.args.conn r (Ok c.in-Ok-ask.check)) (g.H.Hub.told c.args.hub.now)
    (g.H.Hub.told c.ask.new.self)) c.in-Ok.ensures c.in-Ok-ask.ensures.told in
    tells_fault c.args.conn c.in-Ok-ask.check c.args.request.now c.in-Err-finish.fault c.decided_of-in-Err-finish.result
    _ _ _ c.decided_of-in-Err-finish.ensures asked c.in-Err-finish.ensures.told

pub returns-in-Ok-finish-clause-refused : goal.returns-in-Ok-finish-clause-refused
returns-in-Ok-finish-clause-refused g c = c.compared.ensures.quiet _ _

pub returns-in-Ok-finish-clause-failed : goal.returns-in-Ok-finish-clause-failed
returns-in-Ok-finish-clause-failed g c = c.compared.ensures.unfailed _ _
