use Rattle.sq_turns.proofs.StandLaws.{first_told}
use Rattle.sq_turns.proofs.hub_front.HubFront.new.Goals as goal

pub returns-clause-stands : goal.returns-clause-stands
returns-clause-stands g c = first_told c.args.conn (g.H.Hub.told c.args.hub) (g.H.Hub.refused c.args.hub)
