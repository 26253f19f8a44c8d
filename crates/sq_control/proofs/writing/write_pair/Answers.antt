use Rattle.std.proofs.Common.{[], ◌∷◌, ◌++◌}
use Rattle.sq_control.proofs.ControlTextLaws.{short_first, short_second, short_third}
use Rattle.sq_control.proofs.writing.write_pair.Goals as goal

pub returns-in-Err-clause-short : goal.returns-in-Err-clause-short
returns-in-Err-clause-short g c =
    let a = g.O.Sink.contents c.args.out.now in
    let b = g.O.Sink.contents c.write_all.new.out in
    short_first a b c.args.head.now c.args.first.now (32 ∷ (c.args.second.now ++ 10 ∷ [])) c.in-Err.ensures.short

pub returns-in-Err-write_all-clause-short : goal.returns-in-Err-write_all-clause-short
returns-in-Err-write_all-clause-short g c =
    let a = g.O.Sink.contents c.args.out.now in
    let b = g.O.Sink.contents c.write_all.new.out in
    let d = g.O.Sink.contents c.write_all-2.new.out in
    short_second a b d c.args.head.now c.args.first.now (32 ∷ (c.args.second.now ++ 10 ∷ [])) c.in-Ok.ensures.ok
    c.in-Err-write_all.ensures.short

pub returns-in-Err-write_line-clause-short : goal.returns-in-Err-write_line-clause-short
returns-in-Err-write_line-clause-short g c =
    let a = g.O.Sink.contents c.args.out.now in
    let b = g.O.Sink.contents c.write_all.new.out in
    let d = g.O.Sink.contents c.write_all-2.new.out in
    let e = g.O.Sink.contents c.write_line.new.out in
    short_third a b d e c.args.head.now c.args.first.now (32 ∷ (c.args.second.now ++ 10 ∷ [])) c.in-Ok.ensures.ok
    c.in-Ok-write_all.ensures.ok c.in-Err-write_line.ensures.short
