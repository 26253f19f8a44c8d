use Rattle.std.proofs.Common.{[], ◌∷◌, ◌++◌, codes}
use Rattle.sq_outside.proofs.Writing.{Grew_proper_more, Grew_proper_after, OnErr_map}
use Rattle.sq_verify.proofs.writing.write_texts.Goals as goal

pub returns-in-Err-clause-short : goal.returns-in-Err-clause-short
returns-in-Err-clause-short g c =
    let a = g.O.Sink.contents c.args.out.now in
    let b = g.O.Sink.contents c.write_line.new.out in
    Grew_proper_more a b (codes "machine " ++ c.args.machine.now ++ 10 ∷ [])
    (codes "journal " ++ c.args.journal.now ++ 10 ∷ []) c.in-Err.ensures.short

pub returns-clause-short : goal.returns-clause-short
returns-clause-short g c =
    let a = g.O.Sink.contents c.args.out.now in
    let b = g.O.Sink.contents c.write_line.new.out in
    let d = g.O.Sink.contents c.write_line-2.new.out in
    OnErr_map c.write_line-2.result
    (Grew_proper_after a b d (codes "machine " ++ c.args.machine.now ++ 10 ∷ [])
    (codes "journal " ++ c.args.journal.now ++ 10 ∷ []) c.in-Ok.ensures.ok) c.write_line-2.ensures.short
