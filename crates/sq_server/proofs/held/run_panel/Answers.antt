use Rattle.std.proofs.Common.{ap}
use Rattle.sq_control.specs.Attending.{FilesSeen, Streams}
use Rattle.sq_server.proofs.ServiceLaws.{begun_fault, served, unbegun_later, unbegun_quiet, unserved_moved}
use Rattle.sq_server.proofs.held.run_panel.Goals as goal

pub returns-in-Ok-clause-served : goal.returns-in-Ok-clause-served
returns-in-Ok-clause-served g c =
    let s = c.in-Ok.served in
    let is = c.ended_status.ensures in
    let ran = c.in-Ok.ensures.panel in
    served _ _ _ _ _ _ _ _ _ _ _ _ s.end s.stopped s.failed ran.0 _ is ran.1.4 ran.2 c.in-Ok.ensures.legal
    c.in-Ok.ensures.stopped c.in-Ok.ensures.quiet c.in-Ok.ensures.failed c.in-Ok.ensures.later

pub returns-in-Err-clause-served : goal.returns-in-Err-clause-served
returns-in-Err-clause-served g c =
    let same = c.in-Err.ensures.unrun.0 in
    unserved_moved _ _ _ _ _ _ _ _ _ _ _ _ _ _
    (ap {B = FilesSeen}
    (λ p. record { opened = g.W.F.Files.opened p.files.now; faults = g.W.F.Files.faults p.files.now })
    same)
    (ap {B = Streams} (λ p. record {
      left = g.W.C.Source.left p.input.now;
      input_faults = g.W.C.Source.faults p.input.now;
      contents = g.W.O.Sink.contents p.out.now;
      output_faults = g.W.O.Sink.faults p.out.now;
    }) same)
    c.unserved_status.ensures.end c.in-Err.ensures.unwritten c.requires.empty
    (λ e. begun_fault c.in-Err.unserved.fault _ _ (c.unserved_status.ensures.journal e) c.in-Err.ensures.unserved)
    (unbegun_quiet c.in-Err.unserved.fault _ _ _ c.unserved_status.ensures.noted c.in-Err.ensures.unserved)
    (unbegun_later c.in-Err.unserved.fault _ _ c.in-Err.ensures.unserved)
