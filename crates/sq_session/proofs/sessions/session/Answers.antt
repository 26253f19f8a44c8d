use Rattle.sq_turns.proofs.CarryLaws.{right_earlier}
use Rattle.sq_session.proofs.SessionLaws.{session_closed, session_cause}
use Rattle.sq_session.proofs.sessions.session.Goals as goal

pub returns-clause-told : goal.returns-clause-told
returns-clause-told g c = session_closed c.close.ensures.contents c.open-why.ensures.told

pub returns-clause-cause : goal.returns-clause-cause
returns-clause-cause g c = session_cause c.open-why.result (right_earlier _ _ _ _ c.close.ensures.later) (λ x. x)
    c.open-why.ensures.cause
