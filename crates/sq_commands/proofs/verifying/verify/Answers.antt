use Rattle.sq_commands.proofs.VerifyLaws.{verify_opened, verify_played, verify_told}
use Rattle.sq_commands.proofs.verifying.verify.Goals as goal

pub returns-in-Ok-clause-delivers : goal.returns-in-Ok-clause-delivers
returns-in-Ok-clause-delivers g c =
    verify_told (g.F.Files.texts c.args.files.now) (g.F.Files.texts c.open_conf.new.files)
    (g.O.Sink.contents c.args.out.now) (g.O.Sink.contents c.judge_file.new.out)
    (g.O.Sink.faults c.args.out.now) (g.O.Sink.faults c.judge_file.new.out) c.args.conf.now c.args.journal.now
    c.in-Ok.setup c.judge_file.result c.in-Ok.ensures.texts c.in-Ok.ensures.comes
    c.judge_file.ensures.delivers

pub returns-in-Ok-clause-opened : goal.returns-in-Ok-clause-opened
returns-in-Ok-clause-opened g c =
    let opened = g.F.Files.opened in
    verify_opened (opened c.args.files.now) (opened c.open_conf.new.files) (opened c.judge_file.new.files)
    (g.O.Sink.contents c.args.out.now) (g.O.Sink.contents c.judge_file.new.out)
    (g.O.Sink.faults c.args.out.now) (g.O.Sink.faults c.judge_file.new.out) c.args.conf.now c.args.journal.now
    c.in-Ok.setup c.judge_file.result c.in-Ok.ensures.opened c.judge_file.ensures.opened

pub returns-in-Ok-clause-end : goal.returns-in-Ok-clause-end
returns-in-Ok-clause-end g c =
    verify_played (g.F.Files.texts c.args.files.now) (g.F.Files.texts c.open_conf.new.files) c.args.conf.now
    c.args.journal.now c.judge_file.result c.in-Ok.ensures.texts c.judge_file.ensures.end
