use Rattle.sq_verify.specs.JournalLines.{noted_in}
use Rattle.sq_verify.specs.Judging.{stated_first}
use Rattle.sq_verify.proofs.BeginLaws.{begins_by}
use Rattle.sq_verify.proofs.beginning.begin_line.Goals as goal

pub returns-in-Ok : goal.returns-in-Ok
returns-in-Ok g c =
    let v = c.args.version in
    let line = c.args.line.now in
    begins_by g.M.Player.machine c.args.setup v line (stated_first v line (noted_in v line)) c.in-Ok.at
    c.begin.result c.in-Ok.ensures c.begin.ensures
