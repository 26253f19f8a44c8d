use Rattle.sq_verify.proofs.BeginLaws.{judged_unheld, reaches_unheld}
use Rattle.sq_verify.proofs.beginning.judge_all.Goals as goal

pub returns-in-Ok-clause-judges : goal.returns-in-Ok-clause-judges
returns-in-Ok-clause-judges g c = judged_unheld c.args.setup c.in-Ok.held (g.S.Source.left c.args.journal.now)
    c.judge_held.result c.in-Ok.ensures c.judge_held.ensures.judges

pub returns-in-Ok-clause-end : goal.returns-in-Ok-clause-end
returns-in-Ok-clause-end g c =
    reaches_unheld c.judge_held.result c.in-Ok.held (g.S.Source.left c.args.journal.now) c.judge_held.new.held
    (g.S.Source.left c.judge_held.new.journal) c.in-Ok.ensures c.judge_held.ensures.end
