use Rattle.std.proofs.Common.{sym}
use Rattle.sq_session.proofs.SessionLaws.{session_opened, session_refused, session_said}
use Rattle.sq_session.proofs.sessions.open.Goals as goal

pub returns-in-None-clause-told : goal.returns-in-None-clause-told
returns-in-None-clause-told g c =
    session_opened c.open.result c.close-closed.result (sym c.in-None.ensures) c.open.ensures.told
    c.close-closed.ensures.told c.open.ensures.granted c.close-closed.ensures.granted c.serve-why.ensures.told

pub returns-in-Some-clause-told : goal.returns-in-Some-clause-told
returns-in-Some-clause-told g c =
    session_refused c.open.result c.in-Some.own (sym c.in-Some.ensures) c.open.ensures.told c.refuse.ensures.tells
    (g.met.F.Meter.capped c.args.front.now) c.open.ensures.granted

pub returns-in-Some-clause-cause : goal.returns-in-Some-clause-cause
returns-in-Some-clause-cause g c = session_said _ _ _ c.refuse.result c.refuse.ensures.cause
