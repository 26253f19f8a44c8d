use Rattle.std.proofs.Common.{List, ℕ, subst}
use Rattle.std.specs.Io.KnownBytes.{Appends}
use Rattle.sq_outside.specs.Output.{Grew, IsProperPrefix}
use Rattle.sq_commands.proofs.RehearseLaws.{broken_delivers, conf_rehearsed, unread_causes, unread_delivers, written_delivers}
use Rattle.sq_commands.proofs.rehearsing.rehearse.Goals as goal

pub returns-in-Err-clause-delivers : goal.returns-in-Err-clause-delivers
returns-in-Err-clause-delivers g c =
    unread_delivers (g.O.Sink.contents c.args.out.now) (g.O.Sink.faults c.args.out.now) c.args.count c.in-Err.end
    c.in-Err.ensures.end c.in-Err.ensures.comes

pub returns-in-Err-clause-end : goal.returns-in-Err-clause-end
returns-in-Err-clause-end g c = conf_rehearsed c.in-Err.end c.in-Err.ensures.end

pub returns-in-Err-clause-causes : goal.returns-in-Err-clause-causes
returns-in-Err-clause-causes g c = λ files. unread_causes files (g.O.Sink.faults c.args.out.now) c.in-Err.end
    c.in-Err.ensures.end

pub returns-in-Ok-write_all-clause-delivers : goal.returns-in-Ok-write_all-clause-delivers
returns-in-Ok-write_all-clause-delivers g c =
    let a = g.O.Sink.contents c.args.out.now in
    let b = g.O.Sink.contents c.write_all.new.out in
    written_delivers a b (g.O.Sink.faults c.args.out.now) (g.O.Sink.faults c.write_all.new.out) c.args.count
    c.in-Ok.line c.in-Ok.ensures.comes
    (subst (λ (t : List ℕ). Appends a b t) c.as_bytes.ensures.value c.in-Ok-write_all.ensures.ok)

pub returns-clause-delivers : goal.returns-clause-delivers
returns-clause-delivers g c =
    let a = g.O.Sink.contents c.args.out.now in
    let b = g.O.Sink.contents c.write_all.new.out in
    broken_delivers a b (g.O.Sink.faults c.args.out.now) (g.O.Sink.faults c.write_all.new.out) c.args.count c.in-Ok.line
    c.in-Ok.ensures.comes
    (subst (λ (t : List ℕ). Grew a b (λ part. IsProperPrefix part t)) c.as_bytes.ensures.value
    c.in-Err-write_all.ensures.short)
