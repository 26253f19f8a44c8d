use Rattle.sq_commands.specs.Commands.{command_of, output_of}
use Rattle.sq_commands.proofs.DoneLaws.{migrates_truly_told, opened_told, runs_truly_told}
use Rattle.sq_commands.proofs.EndLaws.{joined_told}
use Rattle.sq_commands.proofs.VerifyLaws.{audits_told}
use Rattle.sq_commands.proofs.top.run_command.Goals as goal

pub returns-clause-bytes : goal.returns-clause-bytes
returns-clause-bytes g c =
    let contents = g.O.Sink.contents in
    let faults = g.O.Sink.faults in
    joined_told (g.F.Files.texts c.args.files.now) (contents c.args.out.now) (contents c.run_words-status.new.out)
    (contents c.finish.new.out)
    (λ disk. output_of disk c.args.words.now) (faults c.args.out.now) (faults c.run_words-status.new.out)
    (faults c.finish.new.out)
    c.run_words-status.result c.finish.result c.finish.ensures.same c.run_words-status.ensures.causes.out_later
    c.run_words-status.ensures.causes.out_quiet c.run_words-status.ensures.delivers c.finish.ensures.written

pub returns-clause-truly : goal.returns-clause-truly
returns-clause-truly g c = runs_truly_told (g.F.Files.texts c.args.files.now) c.args.words.now

pub returns-clause-migrates : goal.returns-clause-migrates
returns-clause-migrates g c = migrates_truly_told (g.F.Files.texts c.args.files.now) c.args.words.now

pub returns-clause-opened : goal.returns-clause-opened
returns-clause-opened g c =
    let contents = g.O.Sink.contents in
    let faults = g.O.Sink.faults in
    opened_told (g.F.Files.opened c.args.files.now) (g.F.Files.opened c.run_words-status.new.files)
    (contents c.args.out.now) (contents c.run_words-status.new.out) (contents c.finish.new.out)
    (command_of c.args.words.now) (faults c.args.out.now) (faults c.run_words-status.new.out) (faults c.finish.new.out)
    c.run_words-status.result c.finish.result
    c.finish.ensures.same c.run_words-status.ensures.causes.out_later c.run_words-status.ensures.causes.out_quiet
    c.run_words-status.ensures.opened c.finish.ensures.written

pub returns-clause-audits : goal.returns-clause-audits
returns-clause-audits g c = λ ok.
    audits_told (g.F.Files.texts c.args.files.now) (g.O.Sink.contents c.args.out.now)
    (g.O.Sink.contents c.run_words-status.new.out) (g.O.Sink.faults c.args.out.now)
    (g.O.Sink.faults c.run_words-status.new.out)
    c.args.words.now c.run_words-status.result c.finish.result c.finish.ensures.same ok
    c.run_words-status.ensures.delivers
