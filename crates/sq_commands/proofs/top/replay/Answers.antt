use Rattle.sq_commands.proofs.OpenedLaws.{open_no_write, replay_ends, replay_opened, replay_told}
use Rattle.sq_commands.proofs.top.replay.Goals as goal

pub returns-in-Ok-clause-delivers : goal.returns-in-Ok-clause-delivers
returns-in-Ok-clause-delivers g c =
    replay_told (g.F.Files.texts c.args.files.now) (g.F.Files.texts c.open_conf.new.files)
    (g.O.Sink.contents c.args.out.now) (g.O.Sink.contents c.play.new.out)
    (g.O.Sink.faults c.args.out.now) (g.O.Sink.faults c.play.new.out) c.args.conf.now c.args.script.now c.in-Ok.setup
    c.play.result c.in-Ok.ensures.texts c.in-Ok.ensures.comes c.play.ensures.delivers

pub returns-in-Ok-clause-opened : goal.returns-in-Ok-clause-opened
returns-in-Ok-clause-opened g c =
    let opened = g.F.Files.opened in
    replay_opened (opened c.args.files.now) (opened c.open_conf.new.files) (opened c.play.new.files)
    (g.O.Sink.contents c.args.out.now) (g.O.Sink.contents c.play.new.out)
    (g.O.Sink.faults c.args.out.now) (g.O.Sink.faults c.play.new.out) c.args.conf.now c.args.script.now c.in-Ok.setup
    c.play.result c.in-Ok.ensures.opened c.play.ensures.opened

pub returns-in-Err-clause-opened : goal.returns-in-Err-clause-opened
returns-in-Err-clause-opened g c =
    replay_ends (g.F.Files.opened c.args.files.now) (g.F.Files.opened c.open_conf.new.files)
    (g.O.Sink.contents c.args.out.now) (g.O.Sink.faults c.args.out.now)
    c.args.conf.now c.args.script.now c.in-Err.end
    (open_no_write (g.F.Files.texts c.args.files.now) c.args.conf.now c.in-Err.end c.in-Err.ensures.end)
    c.in-Err.ensures.opened
