use Rattle.sq_verify.proofs.BeginLaws.{begin_ok}
use Rattle.sq_verify.proofs.beginning.begin.Goals as goal

pub returns-in-Ok-compare_first : goal.returns-in-Ok-compare_first
returns-in-Ok-compare_first g c = begin_ok g.M.Player.machine c.args.setup c.args.version c.args.line.now c.args.now
    c.args.offset c.in-Ok.machine c.in-Ok.ensures c.in-Ok-compare_first.ensures
