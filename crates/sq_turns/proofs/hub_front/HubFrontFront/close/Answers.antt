use Rattle.std.proofs.Common.{Ok, Err, sym, subst}
use Rattle.sq_turns.specs.Fronts.{CloseRefuses}
use Rattle.sq_turns.proofs.OpenLaws.{tells_closed, tells_unclosed}
use Rattle.sq_turns.proofs.StandLaws.{stands_close, close_refuses}
use Rattle.sq_turns.proofs.hub_front.HubFrontFront.close.Goals as goal

pub returns-in-Ok-clause-closes : goal.returns-in-Ok-clause-closes
returns-in-Ok-clause-closes g c = tells_closed c.args.self.now.conn tt _ _ c.in-Ok.ensures.told

pub returns-in-Ok-clause-told : goal.returns-in-Ok-clause-told
returns-in-Ok-clause-told g c list st = stands_close c.args.self.now.conn (Ok tt) _ _ _ _ list
    (tells_closed c.args.self.now.conn tt _ _ c.in-Ok.ensures.told) c.close.ensures.refused_later tt st

pub returns-in-Err-clause-closes : goal.returns-in-Err-clause-closes
returns-in-Err-clause-closes g c = tells_unclosed c.args.self.now.conn c.in-Err.fault c.unclosed_of.result _ _
    c.unclosed_of.ensures c.in-Err.ensures.told

pub returns-in-Err-clause-told : goal.returns-in-Err-clause-told
returns-in-Err-clause-told g c list st =
    stands_close c.args.self.now.conn (Err c.unclosed_of.result) _ _ _ _ list
    (tells_unclosed c.args.self.now.conn c.in-Err.fault c.unclosed_of.result _ _ c.unclosed_of.ensures
    c.in-Err.ensures.told) c.close.ensures.refused_later
    (subst (λ f. CloseRefuses (g.H.Hub.refused c.args.self.now.hub) (g.H.Hub.refused c.close.new.self) (Err f))
    (sym c.unclosed_of.ensures) (close_refuses _ _ c.in-Err.fault c.in-Err.ensures.refused)) st
