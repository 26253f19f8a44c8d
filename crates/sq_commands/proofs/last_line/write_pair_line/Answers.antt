use Rattle.std.proofs.Common.{[], ◌∷◌, ◌++◌}
use Rattle.std.proofs.KnownBytes.{Appends-trans}
use Rattle.sq_outside.proofs.Writing.{Grew_more, Grew_after}
use Rattle.sq_commands.proofs.last_line.write_pair_line.Goals as goal

pub returns-in-Err-clause-err : goal.returns-in-Err-clause-err
returns-in-Err-clause-err g c =
    let a = g.O.Sink.contents c.args.out.now in
    let b = g.O.Sink.contents c.write_all.new.out in
    let head = c.args.head.now in
    let first = c.args.first.now in
    Grew_more a b (head ++ first) (32 ∷ (c.args.second.now ++ 10 ∷ [])) (Grew_more a b head first c.in-Err.ensures.err)

pub returns-in-Err-write_all-clause-err : goal.returns-in-Err-write_all-clause-err
returns-in-Err-write_all-clause-err g c =
    let a = g.O.Sink.contents c.args.out.now in
    let b = g.O.Sink.contents c.write_all.new.out in
    let d = g.O.Sink.contents c.write_all-2.new.out in
    let head = c.args.head.now in
    let first = c.args.first.now in
    Grew_more a d (head ++ first) (32 ∷ (c.args.second.now ++ 10 ∷ []))
    (Grew_after a b d head first c.in-Ok.ensures.ok c.in-Err-write_all.ensures.err)

pub returns-in-Err-write_line-clause-err : goal.returns-in-Err-write_line-clause-err
returns-in-Err-write_line-clause-err g c =
    let a = g.O.Sink.contents c.args.out.now in
    let b = g.O.Sink.contents c.write_all.new.out in
    let d = g.O.Sink.contents c.write_all-2.new.out in
    let e = g.O.Sink.contents c.write_line.new.out in
    let head = c.args.head.now in
    let first = c.args.first.now in
    Grew_after a d e (head ++ first) (32 ∷ (c.args.second.now ++ 10 ∷ []))
    (Appends-trans a b d head first c.in-Ok.ensures.ok c.in-Ok-write_all.ensures.ok) c.in-Err-write_line.ensures.err
