use Rattle.std.proofs.Common.{inr, refl, ◌∙◌}
use Rattle.std.proofs.KnownBytes.{Appends-nil}
use Rattle.sq_turns.proofs.CarryLaws.{right_later}
use Rattle.sq_turns.proofs.ForwardLaws.{connects, connects_not, connects_cause, connects_dry}
use Rattle.sq_turns.proofs.GoesLaws.{granted_none}
use Rattle.sq_turns.proofs.forwarding.connect.Goals as goal

pub returns-in-Err-clause-told : goal.returns-in-Err-clause-told
returns-in-Err-clause-told g c =
    connects_not _ refl c.in-Err.ensures.err (Appends-nil (g.O.Outgo.Sink.contents c.args.origin.now.to))
    (granted_none (g.M.Meter.seated c.args.meter.now) (g.M.Meter.granted c.args.meter.now)
    (g.met.M.Meter.capped c.args.meter.now))

pub returns-in-Err-clause-cause : goal.returns-in-Err-clause-cause
returns-in-Err-clause-cause g c = inr c.in-Err.ensures.cause.failed

pub returns-clause-told : goal.returns-clause-told
returns-clause-told g c =
    connects (g.C.Outgo.Sink.contents c.write_all.new.out) _ c.tunnel.result c.tunnel_end.result c.tunnel_end.ensures
    refl
    c.in-Ok.ensures.ok c.tunnel.ensures.up c.tunnel.ensures.down c.tunnel.ensures.up_ended c.tunnel.ensures.down_paid

pub returns-clause-cause : goal.returns-clause-cause
returns-clause-cause g c = connects_cause c.tunnel.result c.tunnel_end.result c.tunnel_end.ensures
    (λ e. right_later _ _ _ _ c.in-Ok.ensures.cause.later (c.tunnel.ensures.client e)) c.tunnel.ensures.origin

pub returns-clause-dry : goal.returns-clause-dry
returns-clause-dry g c = c.tunnel.ensures.dry ∙ connects_dry c.tunnel.result c.tunnel_end.result c.tunnel_end.ensures
