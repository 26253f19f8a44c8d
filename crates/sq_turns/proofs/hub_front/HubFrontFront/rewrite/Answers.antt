use Rattle.sq_turns.proofs.StandLaws.{stands_rewrite}
use Rattle.sq_turns.proofs.hub_front.HubFrontFront.rewrite.Goals as goal

pub returns-clause-told : goal.returns-clause-told
returns-clause-told g c list st = stands_rewrite c.args.self.now.conn c.args.judged.now c.rewrite.result _ _ _ _ list
    c.rewrite.ensures.told c.rewrite.ensures.refused_later st
