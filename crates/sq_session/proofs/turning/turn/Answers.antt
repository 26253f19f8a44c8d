use Rattle.std.proofs.Common.{inl, refl, subst, sym, ◌∙◌}
use Rattle.sq_turns.specs.Told.{BeginsTold}
use Rattle.sq_turns.proofs.CarryLaws.{cause_client, cause_later}
use Rattle.sq_turns.proofs.GoesLaws.{was_told}
use Rattle.sq_turns.proofs.TurnLaws.{takes_request, takes_own, takes_none}
use Rattle.sq_turns.proofs.VerdictLaws.{asks_heard, refused_turn, silent_cause, silent_ends}
use Rattle.sq_session.proofs.turning.turn.Goals as goal

pub returns-in-Asks-clause-told : goal.returns-in-Asks-clause-told
returns-in-Asks-clause-told g c =
    takes_request c.args.addr c.in-Asks.request (g.met.F.Meter.capped c.args.front.now)
    (subst (BeginsTold _ _) (asks_heard c.next_request.result c.in-Asks.request (sym c.in-Asks.ensures))
    c.next_request.ensures.begins) c.answer.ensures.told

pub returns-in-Asks-clause-cause : goal.returns-in-Asks-clause-cause
returns-in-Asks-clause-cause g c = cause_later _ _ _ _ _ c.answer.result c.next_request.ensures.later
    c.answer.ensures.cause

pub returns-in-Refused-clause-told : goal.returns-in-Refused-clause-told
returns-in-Refused-clause-told g c =
    takes_own c.args.addr c.next_request.result _
    (λ rest. refused_turn c.args.addr rest c.next_request.result c.in-Refused.own (sym c.in-Refused.ensures))
    (g.met.F.Meter.capped c.args.front.now) c.next_request.ensures.begins c.say.ensures.tells

pub returns-in-Refused-clause-cause : goal.returns-in-Refused-clause-cause
returns-in-Refused-clause-cause g c = cause_client _ _ _ c.say.result c.say.ensures.cause

pub returns-in-Refused-clause-dialled : goal.returns-in-Refused-clause-dialled
returns-in-Refused-clause-dialled g c = was_told _

pub returns-in-Refused-clause-calls : goal.returns-in-Refused-clause-calls
returns-in-Refused-clause-calls g c = inl refl

pub returns-in-Silent-clause-told : goal.returns-in-Silent-clause-told
returns-in-Silent-clause-told g c =
    let s = silent_ends c.args.addr c.next_request.result c.in-Silent.ended (sym c.in-Silent.ensures) in
    takes_none c.args.addr c.next_request.result c.in-Silent.ended s.turn_is s.goes s.here
    (g.met.F.Meter.capped c.args.front.now) c.next_request.ensures.begins

pub returns-in-Silent-clause-cause : goal.returns-in-Silent-clause-cause
returns-in-Silent-clause-cause g c =
    silent_cause _ _ _ c.next_request.result c.in-Silent.ended (sym c.in-Silent.ensures) c.next_request.ensures.cause

pub returns-in-Silent-clause-dry : goal.returns-in-Silent-clause-dry
returns-in-Silent-clause-dry g c =
    c.requires.dry
    ∙ sym (silent_ends c.args.addr c.next_request.result c.in-Silent.ended (sym c.in-Silent.ensures)).dry

pub returns-in-Silent-clause-dialled : goal.returns-in-Silent-clause-dialled
returns-in-Silent-clause-dialled g c = was_told _

pub returns-in-Silent-clause-calls : goal.returns-in-Silent-clause-calls
returns-in-Silent-clause-calls g c = inl refl
