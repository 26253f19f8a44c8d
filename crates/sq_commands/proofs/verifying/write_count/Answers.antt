use Rattle.sq_commands.proofs.VerifyLaws.{count_broken, count_written}
use Rattle.sq_commands.proofs.verifying.write_count.Goals as goal

pub returns-in-Ok-clause-delivers : goal.returns-in-Ok-clause-delivers
returns-in-Ok-clause-delivers g c = λ judged is.
    count_written (g.O.Sink.contents c.args.out.now) (g.O.Sink.contents c.write_finding.new.out)
    (g.O.Sink.faults c.args.out.now) (g.O.Sink.faults c.write_finding.new.out) c.args.count judged c.in-Ok.ensures.ok is

pub returns-clause-delivers : goal.returns-clause-delivers
returns-clause-delivers g c = λ judged is.
    count_broken (g.O.Sink.contents c.args.out.now) (g.O.Sink.contents c.write_finding.new.out)
    (g.O.Sink.faults c.args.out.now) (g.O.Sink.faults c.write_finding.new.out) c.args.count judged
    c.in-Err.ensures.short is
