use Rattle.std.proofs.Common.{refl, ◌∙◌, arith}
use Rattle.sq_turns.specs.declared.ends.Carried.TheVariants.{Closes, Over}
use Rattle.sq_turns.proofs.CarryLaws.{rose_later, rose_earlier}
use Rattle.sq_session.proofs.ServeLaws.{serves_none, serves_more, serves_last}
use Rattle.sq_session.proofs.SessionLaws.{over_cause, over_dry}
use Rattle.sq_session.proofs.sessions.serve.Goals as goal

pub loop-init : goal.loop-init
loop-init g c = record {
  served = serves_none _ _ _ _ (g.met.F.Meter.capped c.args.front.now);
  dry = c.requires.dry;
  unseated = c.requires.unseated;
  number = refl;
  asked = omega arith;
  client_later = omega arith;
  to_later = omega arith;
  dialer_later = omega arith;
}

pub loop-preserved : goal.loop-preserved
loop-preserved g c =
    let inv = c.loop.invariant in
    record {
      served = serves_more refl inv.served c.turn-carried.ensures.dialled c.in-Stays.ensures.told
          (λ f. rose_earlier _ _ _ f c.turn-carried.ensures.dialer_later) (λ f. rose_later _ _ _ inv.dialer_later f);
      dry = c.in-Stays.ensures.dry;
      unseated = c.turn-carried.ensures.unseated;
      number = c.turn-carried.ensures.number ∙ inv.number;
      asked = omega (arith, inv.asked, c.turn-carried.ensures.asked);
      client_later = omega (arith, inv.client_later, c.turn-carried.ensures.client_later);
      to_later = omega (arith, inv.to_later, c.turn-carried.ensures.to_later);
      dialer_later = omega (arith, inv.dialer_later, c.turn-carried.ensures.dialer_later);
    }

pub returns-in-Closes-clause-told : goal.returns-in-Closes-clause-told
returns-in-Closes-clause-told g c =
    let inv = c.loop.invariant in
    serves_last Closes refl inv.served c.turn-carried.ensures.dialled c.in-Closes.ensures.told
    (λ f. rose_earlier _ _ _ f c.turn-carried.ensures.dialer_later) (λ f. rose_later _ _ _ inv.dialer_later f)

pub returns-in-Over-clause-told : goal.returns-in-Over-clause-told
returns-in-Over-clause-told g c =
    let inv = c.loop.invariant in
    serves_last (Over c.in-Over.end) refl inv.served c.turn-carried.ensures.dialled c.in-Over.ensures.told
    (λ f. rose_earlier _ _ _ f c.turn-carried.ensures.dialer_later) (λ f. rose_later _ _ _ inv.dialer_later f)

pub returns-in-Over-clause-cause : goal.returns-in-Over-clause-cause
returns-in-Over-clause-cause g c =
    let inv = c.loop.invariant in
    over_cause _ _ _ _ _ _ _ _ _ c.in-Over.end inv.client_later inv.to_later inv.dialer_later c.in-Over.ensures.cause

pub returns-in-Over-clause-dry : goal.returns-in-Over-clause-dry
returns-in-Over-clause-dry g c = c.in-Over.ensures.dry ∙ over_dry c.in-Over.end
