use Rattle.std.proofs.Common.{sym, subst}
use Rattle.sq_turns.specs.Fronts.{OpenRefuses}
use Rattle.sq_turns.specs.declared.front.Opened.TheVariants as opened
use Rattle.sq_turns.proofs.OpenLaws.{tells_in, tells_unopened}
use Rattle.sq_turns.proofs.StandLaws.{stands_open, open_refuses}
use Rattle.sq_turns.proofs.hub_front.HubFrontFront.open.Goals as goal

pub returns-in-Ok-clause-told : goal.returns-in-Ok-clause-told
returns-in-Ok-clause-told g c list st =
    stands_open c.args.self.now.conn c.args.addr c.args.port opened.In _ _ _ _ list
    (tells_in c.args.self.now.conn c.args.addr c.args.port tt _ _ c.in-Ok.ensures.told) c.open.ensures.refused_later
    tt st

pub returns-in-Err-clause-opens : goal.returns-in-Err-clause-opens
returns-in-Err-clause-opens g c =
    tells_unopened c.args.self.now.conn c.args.addr c.args.port c.in-Err.fault c.opened_of.result _ _
    c.opened_of.ensures c.in-Err.ensures.told

pub returns-in-Err-clause-told : goal.returns-in-Err-clause-told
returns-in-Err-clause-told g c list st =
    stands_open c.args.self.now.conn c.args.addr c.args.port c.opened_of.result _ _ _ _ list
    (tells_unopened c.args.self.now.conn c.args.addr c.args.port c.in-Err.fault c.opened_of.result _ _
    c.opened_of.ensures c.in-Err.ensures.told) c.open.ensures.refused_later
    (subst (λ o. OpenRefuses (g.H.Hub.refused c.args.self.now.hub) (g.H.Hub.refused c.open.new.self) o)
    (sym c.opened_of.ensures) (open_refuses _ _ c.in-Err.fault c.in-Err.ensures.refused)) st
