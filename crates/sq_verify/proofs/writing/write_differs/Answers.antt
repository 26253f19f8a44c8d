use Rattle.std.proofs.Common.{codes}
use Rattle.sq_outside.proofs.Writing.{Grew_proper_more, Grew_proper_after, OnErr_map}
use Rattle.sq_verify.specs.FindingText.{number_line, texts_lines}
use Rattle.sq_verify.proofs.writing.write_differs.Goals as goal

pub returns-in-Err-clause-short : goal.returns-in-Err-clause-short
returns-in-Err-clause-short g c =
    let a = g.O.Sink.contents c.args.out.now in
    let b = g.O.Sink.contents c.write_number_line.new.out in
    Grew_proper_more a b (number_line (codes "differs ") c.args.line)
    (texts_lines c.args.machine.now c.args.journal.now) c.in-Err.ensures.short

pub returns-clause-short : goal.returns-clause-short
returns-clause-short g c =
    let a = g.O.Sink.contents c.args.out.now in
    let b = g.O.Sink.contents c.write_number_line.new.out in
    let d = g.O.Sink.contents c.write_texts.new.out in
    OnErr_map c.write_texts.result
    (Grew_proper_after a b d (number_line (codes "differs ") c.args.line)
    (texts_lines c.args.machine.now c.args.journal.now) c.in-Ok.ensures.ok) c.write_texts.ensures.short
