use Rattle.std.proofs.Common.{[], ◌∷◌, ◌++◌}
use Rattle.std.proofs.KnownBytes.{Appends-trans}
use Rattle.sq_base.specs.Escapes.{text_word}
use Rattle.sq_outside.proofs.Writing.{Grew_more, Grew_after}
use Rattle.sq_commands.proofs.last_line.write_text_line.Goals as goal

pub returns-in-Err-clause-err : goal.returns-in-Err-clause-err
returns-in-Err-clause-err g c =
    let a = g.O.Sink.contents c.args.out.now in
    let b = g.O.Sink.contents c.write_all.new.out in
    let head = c.args.head.now in
    let word = text_word c.args.bytes.now in
    Grew_more a b (head ++ word) (10 ∷ []) (Grew_more a b head word c.in-Err.ensures.err)

pub returns-in-Err-write_text-clause-err : goal.returns-in-Err-write_text-clause-err
returns-in-Err-write_text-clause-err g c =
    let a = g.O.Sink.contents c.args.out.now in
    let b = g.O.Sink.contents c.write_all.new.out in
    let d = g.O.Sink.contents c.write_text.new.out in
    let head = c.args.head.now in
    let word = text_word c.args.bytes.now in
    Grew_more a d (head ++ word) (10 ∷ [])
    (Grew_after a b d head word c.in-Ok.ensures.ok c.in-Err-write_text.ensures.err)

pub returns-in-Err-write_all-clause-err : goal.returns-in-Err-write_all-clause-err
returns-in-Err-write_all-clause-err g c =
    let a = g.O.Sink.contents c.args.out.now in
    let b = g.O.Sink.contents c.write_all.new.out in
    let d = g.O.Sink.contents c.write_text.new.out in
    let e = g.O.Sink.contents c.write_all-2.new.out in
    let head = c.args.head.now in
    let word = text_word c.args.bytes.now in
    Grew_after a d e (head ++ word) (10 ∷ [])
    (Appends-trans a b d head word c.in-Ok.ensures.ok c.in-Ok-write_text.ensures.ok) c.in-Err-write_all.ensures.err
