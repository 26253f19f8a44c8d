use Rattle.sq_outside.proofs.Writing.{Grew_proper, OnErr_map}
use Rattle.sq_verify.specs.FindingText.{differs_text}
use Rattle.sq_commands.proofs.last_line.write_differs_lines.Goals as goal

pub returns-clause-err : goal.returns-clause-err
returns-clause-err g c =
    OnErr_map c.write_differs.result
    (Grew_proper (g.O.Sink.contents c.args.out.now) (g.O.Sink.contents c.write_differs.new.out)
    (differs_text c.args.line c.args.machine.now c.args.journal.now)) c.write_differs.ensures.short
