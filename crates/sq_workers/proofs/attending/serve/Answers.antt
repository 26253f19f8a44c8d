use Rattle.sq_workers.proofs.ServeLaws.{serves_hub}
use Rattle.sq_workers.proofs.attending.serve.Goals as goal

pub returns-clause-told : goal.returns-clause-told
returns-clause-told g c =
    serves_hub g.H.Hub.told g.H.Hub.refused g.H.Hub.granted c.args.link.addr c.args.link.port
    (g.E.In.Source.left c.args.link.from) c.args.link.conn c.args.hub
    c.new.ensures c.new-front.ensures.conn c.new-front.ensures.hub c.session-end.ensures.number c.finish.ensures.hub
    c.session-end.ensures.told
