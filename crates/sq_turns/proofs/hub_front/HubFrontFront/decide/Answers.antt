use Rattle.sq_turns.proofs.StandLaws.{stands_decide}
use Rattle.sq_turns.proofs.hub_front.HubFrontFront.decide.Goals as goal

pub returns-clause-told : goal.returns-clause-told
returns-clause-told g c list st = stands_decide c.args.self.now.conn c.args.request.now c.judge.result _ _ _ _ list
    c.judge.ensures.told c.judge.ensures.refused_later c.judge.ensures.refused st
